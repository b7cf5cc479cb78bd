-- A house rule: the readings of an algebra, cut to a mask.
use Rattle.std.specs.Prelude.{ℕ, ◌^◌, Bool, cond, ◌&&◌, ◌||◌, ◌==◌, bit_and}
use Rattle.algebra.specs.Masks.{has, union}
use Rattle.algebra.specs.Meaning.{Meaning}

-- the readings of u that pass the test p
unfoldable pub those : ℕ → (ℕ → Bool) → ℕ
those u p = union u (λ k. cond (p k) (2 ^ k) 0) 32

-- reading 0, and each reading that is in the mask together with its converse
unfoldable pub kept : Meaning → ℕ → ℕ
kept m mask = those m.universe (λ k. (k == 0) || (has mask k && has mask (m.converse k)))

-- converse and composition are those below, cut to what is kept
abbrev pub housed : Meaning → ℕ → Meaning
housed m mask = record {
  universe = kept m mask;
  converse = m.converse;
  composition = λ a b. bit_and (m.composition a b) (kept m mask);
  stamp = record { code = m.stamp.code; house = bit_and m.stamp.house mask };
}
