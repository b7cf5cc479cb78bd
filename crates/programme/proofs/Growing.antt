-- Ledgers that grow: each entry and tie that is taken leaves an orderly ledger.
use Rattle.std.proofs.Common.{ℕ, zero, suc, ◌<◌, List, [], ◌∷◌, ◌++◌, map, length, get_or, Ok, Err, inl, inr, arith, lit<}
use mathlib.Core.List.Memᴰ
use Rattle.std.proofs.lemmas.List.{map_push}
use Rattle.std.proofs.lemmas.Bool.{cases_Bool}
use Rattle.algebra.specs.Masks.{has}
use Rattle.algebra.specs.Meaning.{Meaning}
use Rattle.programme.specs.Networks.{tie_of}
use Rattle.programme.specs.Ledgers.{Ledger, Ask, enter, tie, attempt, Below, Answered, taken}
use Rattle.programme.specs.Grown.{InTurn, ended, next, Telling, Orderly, BlankOrderly, StaysOrderly}
use Rattle.programme.specs.declared.refusals.Refusal.TheVariants.{Outside, Everything}
use Rattle.programme.proofs.Giving.{each_tie}

pub blank_orderly : BlankOrderly
blank_orderly m = record { entered = ended; telling = λ t a. absurd (Memᴰ.not-nil a) }

-- what is asked in turn, and then more
pub both_in_turn : {m : Meaning} {L K J : Ledger} {asks more : List Ask} → InTurn m L asks K → InTurn m K more J →
    InTurn m L (asks ++ more) J
both_in_turn ended q = q
both_in_turn (next a p) q = next a (both_in_turn p q)

pub entry_orderly : (m : Meaning) (L : Ledger) (name : List ℕ) (n : ℕ) → Orderly m L → Answered m L (enter name) (Ok n) →
    Orderly m (taken L (enter name))
entry_orderly m L name n o a = record {
  entered = rw (map_push enter L.names name) (both_in_turn o.entered (next {n = n} a ended));
  telling = o.telling;
}

telling : (m : Meaning) (L : Ledger) (i j mask : ℕ) → Below m L (tie i j mask) 10 → Telling m mask
telling m L i j mask below = record {
  within = λ r x.
      elim (cases_Bool (has m.universe r)) [
        | inl u ↦ u
        | inr u ↦ absurd (below Outside (lit< tt) (r, x, u))
      ];
  part = below Everything (lit< tt);
}

pub tie_orderly : (m : Meaning) (L : Ledger) (i j mask : ℕ) → Orderly m L → Below m L (tie i j mask) 10 →
    Orderly m (taken L (tie i j mask))
tie_orderly m L i j mask o below = record {
  entered = o.entered;
  telling = each_tie L.ties (tie_of i j mask) (λ t. Telling m t.mask) (telling m L i j mask below) o.telling;
}

-- every answer leaves an orderly ledger
pub after_orderly : StaysOrderly
after_orderly m L (enter name) (Ok n) o a = entry_orderly m L name n o a
after_orderly m L (tie i j mask) (Ok n) o a = tie_orderly m L i j mask o (λ refusal h. a.1 refusal)
after_orderly m L (attempt i j mask) (Ok n) o a = o
after_orderly m L ask (Err refusal) o a = o

-- each name was taken at some time
pub each_entered : (m : Meaning) (L K : Ledger) (names : List (List ℕ)) → InTurn m L (map enter names) K → (k : ℕ) → k < length names →
    (J : Ledger) × (n : ℕ) × Answered m J (enter (get_or names k [])) (Ok n)
each_entered m L K [] p k h = absurd (omega arith)
each_entered m L K (name ∷ names) (next {n = n} a p) zero h = (L, n, a)
each_entered m L K (name ∷ names) (next a p) (suc k) h = each_entered m _ K names p k (omega arith)
