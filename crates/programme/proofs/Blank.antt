-- The network with no links reflects no ties.
use Rattle.std.proofs.Common.{◌≡◌, ℕ, ◌<◌, false, List, [], get_or, replicate, sym, ap, ◌∙◌, inl, inr}
use lib.ListN.{get_or-replicate, length-replicate}
use Rattle.std.proofs.lemmas.List.{get_or_past}
use Rattle.std.proofs.lemmas.Bool.{cases_lt, both_ways}
use Rattle.algebra.specs.Masks.{has}
use Rattle.algebra.specs.Meaning.{Meaning}
use Rattle.algebra.specs.Bits.{has_zero}
use Rattle.network.proofs.Links.{no_links}
use Rattle.network.proofs.Closing.{begins}
use Rattle.programme.specs.Networks.{bit_at, cell, net_of, Reflects}
use Rattle.programme.specs.declared.linkage.Network.{Network}

unfoldable pub empty : ℕ → Network
empty u = record { links = replicate 48 0; pending = replicate 48 0; sets = replicate 48 (replicate 48 u) }

no_bit : (i j : ℕ) → bit_at (replicate 48 0) i j ≡ false
no_bit i j =
    ap (λ x. has x j) (elim (cases_lt i 48) [
      | inl l ↦ get_or-replicate 48 i 0 0 l
      | inr g ↦ get_or_past (replicate 48 0) i 0 (rw length-replicate g)
    ]) ∙ has_zero j

full : (u i j : ℕ) → i < 48 → j < 48 → cell (replicate 48 (replicate 48 u)) i j ≡ u
full u i j hi hj =
    ap (λ (row : List ℕ). get_or row j 0) (get_or-replicate 48 i (replicate 48 u) [] hi) ∙ get_or-replicate 48 j u 0 hj

pub blank_reflects : (m : Meaning) (u : ℕ) → m.universe ≡ u → Reflects m (empty u) []
unfolding empty
blank_reflects m u e = record {
  linked = λ i j. (λ h. absurd (both_ways (bit_at (replicate 48 0) i j) (no_bit i j) h), λ l. absurd (no_links l));
  free = λ i j hi hj h. full u i j hi hj ∙ sym e;
  settled = begins m (net_of (empty u));
  idle = no_bit;
}
