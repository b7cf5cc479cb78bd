-- Lines: one turn more, from the start of a line to its end.
use Rattle.std.proofs.Common.{◌≡◌, ℕ, List, [], ◌∷◌, map, Ok, Err, Result, sym, refl, ap, ◌∙◌, Bor}
use Rattle.algebra.specs.Meaning.{Meaning, Lawful}
use Rattle.programme.specs.Ledgers.{Ledger, blank, after}
use Rattle.programme.specs.Grown.{Orderly}
use Rattle.programme.specs.Shown.{Shows}
use Rattle.programme.specs.Line.{Line}
use Rattle.programme.specs.Line as line
use Rattle.programme.specs.declared.sheets.Sheet.{Sheet}
use Rattle.programme.proofs.Growing.{blank_orderly, after_orderly}
use Rattle.programme.proofs.Looking.{settled_set}
use Rattle.programme.proofs.Determined.{one_answer}
use Rattle.qcue.specs.Loaded.{standing}
use Rattle.qcue.specs.Performed.{LoadKeeps, Turn, call, load, turn_of, Replied, TurnKeeps, Stage}
use Rattle.qcue.specs.Performed.{Performed, ended, next, FromBlank, OneLine}
use Rattle.qcue.specs.declared.lines.Answer.{Answer}
use Rattle.qcue.specs.declared.lines.Answer.TheVariants as answer
use Rattle.qcue.specs.declared.lines.Request.{Request}
use Rattle.qcue.specs.declared.lines.Request.TheVariants as request
use Rattle.qcue.specs.declared.loading.Expected.TheVariants.{Head}
use Rattle.qcue.specs.declared.refusals.Fault.{Fault}
use Rattle.qcue.proofs.Determined.{weaken, one_load, load_orderly}

-- ---- one turn

pub loaded : (m : Meaning) (s t : Sheet) (given : Request) (bytes : Bor (List ℕ)) (r : Result ℕ Fault) → given ≡ request.Load bytes →
    LoadKeeps m s bytes.now r t → TurnKeeps m s (turn_of given) (answer.Load r) t
loaded m s t given bytes r is k = rw is (record {
  replied = λ L w. let (K, h, shown) = k.answered L w in (standing L K r, (K, h, refl), shown);
  refused = k.refused;
  tried = tt;
})

-- ---- the whole line

-- every turn leaves an orderly ledger
reply_orderly : (m : Meaning) (L K : Ledger) (turn : Turn) (r : Answer) → Orderly m L → Replied m L turn r K → Orderly m K
reply_orderly m L K (call ask) (answer.Call r) o (x, e) = rw e (after_orderly m L ask r o x.0)
reply_orderly m L K (call ask) (answer.Load r) o x = absurd x
reply_orderly m L K (load bytes) (answer.Call r) o x = absurd x
reply_orderly m L K (load bytes) (answer.Load (Ok n)) o (J, x, e) = rw e (load_orderly x o)
reply_orderly m L K (load bytes) (answer.Load (Err fault)) o (J, x, e) = rw e o

stage : {m : Meaning} {s : Sheet} {L : Ledger} → Lawful m → Shows m s L → Orderly m L → Stage m s L
stage l w o = record { shown = w; orderly = o; settled = λ i j x. settled_set _ _ _ w i j l x }

performed : {m : Meaning} {s u : Sheet} {L : Ledger} {requests : List Request} {answers : List Answer} → Lawful m →
    Shows m s L → Orderly m L → Line (λ s request r t. TurnKeeps m s (turn_of request) r t) s requests answers u →
    (K : Ledger) × Performed m s L (map turn_of requests) answers u K
performed l w o line.ended = (_, ended (stage l w o))
performed {m} {L} l w o (line.next k p) =
    let (J, replied, shown) = k.replied L w in
    let (K, q) = performed l shown (reply_orderly m L J _ _ o replied) p in
    (K, next (stage l w o) k replied q)

-- n is the meaning of the algebra that the programme holds
pub from_blank : (m n : Meaning) (s u : Sheet) (requests : List Request) (answers : List Answer) → n ≡ m → Lawful m →
    Shows m s blank → Line (λ s request r t. TurnKeeps n s (turn_of request) r t) s requests answers u →
    FromBlank m (map turn_of requests) answers u
from_blank m n s u requests answers same l w p =
    let (K, q) = performed l w (blank_orderly m) (rw same at p) in (s, K, q)

-- ---- one answer to each turn, and so to the line

one_reply : (m : Meaning) (L K J : Ledger) (turn : Turn) (these those : Answer) → Replied m L turn these K →
    Replied m L turn those J → (these ≡ those) × (K ≡ J)
one_reply m L K J (call ask) (answer.Call r) (answer.Call q) (x, e) (y, f) =
    let same = one_answer m L ask r q x.0 y.0 in
    (ap answer.Call same, e ∙ ap (after L ask) same ∙ sym f)
one_reply m L K J (call ask) (answer.Call r) (answer.Load q) x y = absurd y
one_reply m L K J (call ask) (answer.Load r) those x y = absurd x
one_reply m L K J (load bytes) (answer.Call r) those x y = absurd x
one_reply m L K J (load bytes) (answer.Load r) (answer.Call q) x y = absurd y
one_reply m L K J (load bytes) (answer.Load r) (answer.Load q) (M, x, e) (N, y, f) =
    let (same, led) = one_load m Head L M N 0 bytes r q (weaken (λ L ask r says. says.0) x) (weaken (λ L ask r says. says.0) y) in
    (ap answer.Load same, e ∙ rw (same, led) refl ∙ sym f)

pub one_line : OneLine
one_line m L M N [] these those s t u v (ended x) (ended y) = (refl, refl)
one_line m L M N (turn ∷ turns) [] those s t u v p q = elim p [ ]
one_line m L M N (turn ∷ turns) (r ∷ these) [] s t u v p q = elim q [ ]
one_line m L M N (turn ∷ turns) (r ∷ these) (k ∷ those) s t u v (next {K = K} x a d p) (next {t = w} {K = J} y b e q) =
    let (same, led) = one_reply m L K J turn r k d e in
    let (rest, last) = one_line m K M N turns these those _ t w v p (rw (← led) at q) in
    (rw (same, rest) refl, last)
