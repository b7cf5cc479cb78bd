-- Lines of turns: one turn more, and what a line of calls says of the ledger.
use Rattle.std.proofs.Common.{◌≡◌, ℕ, ◌+◌, ◌<◌, List, [], ◌∷◌, ◌++◌, map, length, get_or, take, set, Result, sym, ap, ◌∙◌}
use Rattle.std.proofs.lemmas.List.{take_more, take_more_set}
use Rattle.algebra.specs.Meaning.{Meaning, Lawful}
use Rattle.programme.specs.Ledgers.{Ledger, blank}
use Rattle.programme.specs.Shown.{Shows}
use Rattle.programme.specs.Kept.{Keeps}
use Rattle.programme.specs.Line.{Line}
use Rattle.programme.specs.Line as line
use Rattle.programme.specs.Performed.{Stage, Performed, ended, next, ask_of, FromBlank}
use Rattle.programme.proofs.Looking.{settled_set}
use Rattle.programme.specs.declared.lines.Call.{Call}
use Rattle.programme.specs.declared.refusals.Refusal.{Refusal}
use Rattle.programme.specs.declared.sheets.Sheet.{Sheet}

module _ {T A : Type 0} where
  then : (Kept : Sheet → T → A → Sheet → Type 0) {s t u : Sheet} {turns : List T} {answers : List A} (turn : T) (r : A) →
      Line Kept s turns answers t → Kept t turn r u → Line Kept s (turns ++ (turn ∷ [])) (answers ++ (r ∷ [])) u
  then Kept turn r line.ended k = line.next k line.ended
  then Kept turn r (line.next j p) k = line.next j (then Kept turn r p k)

  -- n is the meaning of the algebra that the programme holds
  pub line_more : (Kept : Meaning → Sheet → T → A → Sheet → Type 0) (m n : Meaning) (s t u : Sheet) (turns : List T)
      (answers : List A) (k : ℕ) (turn : T) (r : A) → n ≡ m → k < length turns → k < length answers →
      turn ≡ get_or turns k turn → Line (Kept m) s (take k turns) (take k answers) t → Kept n t turn r u →
      Line (Kept m) s (take (k + 1) turns) (take (k + 1) (set answers k r)) u
  line_more Kept m n s t u turns answers k turn r same h j e p kept =
      let asked = take_more turns k turn h ∙ ap (λ x. take k turns ++ (x ∷ [])) (sym e) in
      rw (asked, take_more_set answers k r j) (then (Kept m) turn r p (rw same at kept))

stage : {m : Meaning} {s : Sheet} {L : Ledger} → Lawful m → Shows m s L → Stage m s L
stage l w = record { shown = w; settled = λ i j x. settled_set _ _ _ w i j l x }

-- each call keeps to the ledger that the sheet shows then
performed : {m : Meaning} {s u : Sheet} {L : Ledger} {calls : List Call} {answers : List (Result ℕ Refusal)} → Lawful m →
    Shows m s L → Line (λ s call r t. Keeps m s (ask_of call) r t) s calls answers u →
    (K : Ledger) × Performed m s L (map ask_of calls) answers u K
performed l w line.ended = (_, ended (stage l w))
performed l w (line.next k p) = let (K, q) = performed l (k.shown _ w) p in (K, next (stage l w) k q)

-- n is the meaning of the algebra that the programme holds
pub from_blank : (m n : Meaning) (s u : Sheet) (calls : List Call) (answers : List (Result ℕ Refusal)) → n ≡ m → Lawful m →
    Shows m s blank → Line (λ s call r t. Keeps n s (ask_of call) r t) s calls answers u →
    FromBlank m (map ask_of calls) answers u
from_blank m n s u calls answers same l w p = let (K, q) = performed l w (rw same at p) in (s, K, q)
