-- A file has one answer, and it loads the same where less is said of how ledgers answer.
use Rattle.std.proofs.Common.{◌≡◌, ℕ, List, [], ◌∷◌, get_or, Some, None, Ok, Err, Option, Result, sym, refl, ap, ◌∙◌, inl, inr, arith}
use Rattle.std.proofs.lemmas.Bool.{cases_order}
use Rattle.algebra.specs.Meaning.{Meaning}
use Rattle.algebra.specs.declared.interface.Stamp.{Stamp}
use Rattle.programme.specs.Ledgers.{Ledger, Ask, Answered}
use Rattle.programme.specs.Grown.{Orderly}
use Rattle.programme.specs.declared.refusals.Refusal.{Refusal}
use Rattle.programme.proofs.Determined.{one_answer}
use Rattle.programme.proofs.Growing.{after_orderly}
use Rattle.qcue.specs.Records.{kind_of, payload_of}
use Rattle.qcue.specs.Loaded.{rank, Broken, ask_in, Saying, Served, Loads, done, broken, denied, onward, Says, OneLoad}
use Rattle.qcue.specs.declared.loading.Expected.{Expected}
use Rattle.qcue.specs.declared.refusals.FileRefusal.{FileRefusal}
use Rattle.qcue.specs.declared.refusals.FileRefusal.TheVariants.{TooShort, Occupied, Trailing, Unfinished, Cut}
use Rattle.qcue.specs.declared.refusals.FileRefusal.TheVariants.{UnknownKind, Misplaced, WrongLength, OtherStamp, WrongCount}
use Rattle.qcue.specs.declared.refusals.Fault.{Fault}

-- what the record at the front asks
abbrev asked : List ℕ → Option Ask
asked bytes = ask_in (kind_of bytes) (payload_of bytes)

-- ---- less said of how ledgers answer

weaken_served : {S T : Saying} → ((L : Ledger) (ask : Ask) (r : Result ℕ Refusal) → S L ask r → T L ask r) →
    (L : Ledger) (o : Option Ask) (r : Result Ledger Refusal) → Served S L o r → Served T L o r
weaken_served less L None (Ok K) x = x
weaken_served less L None (Err refusal) x = x
weaken_served less L (Some ask) (Ok K) x = (x.0, less L ask (Ok x.0) x.1, x.2)
weaken_served less L (Some ask) (Err refusal) x = less L ask (Err refusal) x

pub weaken : {S T : Saying} {m : Meaning} {x : Expected} {L K : Ledger} {offset : ℕ} {bytes : List ℕ} {r : Result ℕ Fault} →
    ((L : Ledger) (ask : Ask) (r : Result ℕ Refusal) → S L ask r → T L ask r) →
    Loads S m x L offset bytes r K → Loads T m x L offset bytes r K
weaken less (done e z) = done e z
weaken less (broken f b) = broken f b
weaken {L = L} {bytes = bytes} less (denied {refusal = refusal} k s) =
    denied k (weaken_served less L (asked bytes) (Err refusal) s)
weaken {L = L} {bytes = bytes} less (onward {K = M} k s h) =
    onward k (weaken_served less L (asked bytes) (Ok M) s) (weaken less h)

-- ---- a load leaves an orderly ledger

served_orderly : (m : Meaning) (L K : Ledger) (asked : Option Ask) → Orderly m L → Served (Says m) L asked (Ok K) → Orderly m K
served_orderly m L K None o e = rw e o
served_orderly m L K (Some ask) o (n, says, e) = rw e (after_orderly m L ask (Ok n) o says.0)

pub load_orderly : {m : Meaning} {x : Expected} {L K : Ledger} {offset : ℕ} {bytes : List ℕ} {r : Result ℕ Fault} →
    Loads (Says m) m x L offset bytes r K → Orderly m L → Orderly m K
load_orderly (done e z) o = o
load_orderly (broken f b) o = o
load_orderly (denied k s) o = o
load_orderly {m = m} {L = L} {bytes = bytes} (onward {K = M} k s h) o =
    load_orderly h (served_orderly m L M (asked bytes) o s)

-- ---- each rule has its own rank

ranked : ℕ → FileRefusal
ranked n =
    get_or
    (Occupied ∷ Trailing ∷ Unfinished ∷ Cut ∷ UnknownKind ∷ Misplaced ∷ WrongLength ∷ OtherStamp ∷ WrongCount ∷ [])
    n TooShort

back : (refusal : FileRefusal) → ranked (rank refusal) ≡ refusal
unfolding ranked
back TooShort = refl
back Occupied = refl
back Trailing = refl
back Unfinished = refl
back Cut = refl
back UnknownKind = refl
back Misplaced = refl
back WrongLength = refl
back OtherStamp = refl
back WrongCount = refl

-- ---- one rule is the first that is broken, and a ledger serves in one way

one_broken : {P : Stamp → Type 0} {x : Expected} {entries ties : ℕ} {bytes : List ℕ} {a b : FileRefusal} →
    Broken P x entries ties bytes a → Broken P x entries ties bytes b → a ≡ b
one_broken {a = a} {b} p q =
    elim (cases_order (rank a) (rank b)) [
      | inl e ↦ sym (back a) ∙ ap ranked e ∙ back b
      | inr z ↦ elim z [ inl h ↦ absurd (p.breach (q.first a h)) | inr h ↦ absurd (q.breach (p.first b h)) ]
    ]

one_served : (m : Meaning) (L : Ledger) (o : Option Ask) (these those : Result Ledger Refusal) →
    Served (Answered m) L o these → Served (Answered m) L o those → these ≡ those
one_served m L None (Ok K) (Ok M) x y = ap Ok (x ∙ sym y)
one_served m L None (Ok K) (Err e) x y = absurd y
one_served m L None (Err e) those x y = absurd x
one_served m L (Some ask) (Ok K) (Ok M) x y = ap Ok (x.2 ∙ sym y.2)
one_served m L (Some ask) (Ok K) (Err e) x y = absurd (x.1.1 e y.0)
one_served m L (Some ask) (Err e) (Ok K) x y = absurd (y.1.1 e x.0)
one_served m L (Some ask) (Err e) (Err f) x y = let q = one_answer m L ask (Err e) (Err f) x y in cc

module _ {m : Meaning} where
  once : {x : Expected} {L K H : Ledger} {offset : ℕ} {bytes : List ℕ} {these those : Result ℕ Fault} →
      Loads (Answered m) m x L offset bytes these K → Loads (Answered m) m x L offset bytes those H →
      (these ≡ those) × (K ≡ H)
  once (done e z) (done f y) = (refl, refl)
  once (done e z) (broken f b) = absurd (f e z)
  once (done e z) (denied k s) = absurd (k Trailing e)
  once (done e z) (onward k s h) = absurd (k Trailing e)
  once (broken f b) (done e z) = absurd (f e z)
  once (broken f b) (broken g c) = let q = one_broken b c in (cc, refl)
  once (broken f b) (denied k s) = absurd (b.breach (k _))
  once (broken f b) (onward k s h) = absurd (b.breach (k _))
  once (denied k s) (done e z) = absurd (k Trailing e)
  once (denied k s) (broken f b) = absurd (b.breach (k _))
  once {L = L} {bytes = bytes} (denied {refusal = a} k s) (denied {refusal = b} g t) =
      let q = one_served m L (asked bytes) (Err a) (Err b) s t in (cc, refl)
  once {L = L} {bytes = bytes} (denied {refusal = a} k s) (onward {K = M} g t h) =
      let q = one_served m L (asked bytes) (Err a) (Ok M) s t in
      let z : ◌≡◌ {A = ℕ} 0 1 = cc in absurd (omega arith)
  once (onward k s h) (done e z) = absurd (k Trailing e)
  once (onward k s h) (broken f b) = absurd (b.breach (k _))
  once {L = L} {bytes = bytes} (onward {K = M} k s h) (denied {refusal = b} g t) =
      let q = one_served m L (asked bytes) (Ok M) (Err b) s t in
      let z : ◌≡◌ {A = ℕ} 0 1 = cc in absurd (omega arith)
  once {L = L} {bytes = bytes} (onward {K = M} k s h) (onward {K = N} g t i) =
      let q = one_served m L (asked bytes) (Ok M) (Ok N) s t in
      let e : N ≡ M = cc in
      once h (rw e at i)

pub one_load : OneLoad
one_load m x L K H offset bytes these those = once

-- a file that loads answers 0
pub loads_zero : {S : Saying} {m : Meaning} {x : Expected} {L K : Ledger} {offset : ℕ} {bytes : List ℕ} {r : Result ℕ Fault} (n : ℕ) →
    Loads S m x L offset bytes r K → r ≡ Ok n → n ≡ 0
loads_zero n (done e z) o = cc
loads_zero n (broken f b) o = let z : ◌≡◌ {A = ℕ} 0 1 = cc in absurd (omega arith)
loads_zero n (denied k s) o = let z : ◌≡◌ {A = ℕ} 0 1 = cc in absurd (omega arith)
loads_zero n (onward k s h) o = loads_zero n h o
