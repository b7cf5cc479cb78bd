-- A load from its start to its end: whatever the remaining records are answered, the whole file is.
use Rattle.std.proofs.Common.{◌≡◌, ℕ, ◌+◌, ◌<◌, ◌≢◌, List, [], ◌∷◌, length, drop, Ok, Err, Result, sym, refl, ap, ◌∙◌, arith, length-drop}
use mathlib.Core.List.Memᴰ
use Rattle.algebra.specs.Meaning.{Meaning}
use Rattle.algebra.specs.declared.interface.Stamp.{Stamp}
use Rattle.network.specs.Ties.{Tie, Proper}
use Rattle.programme.specs.Ledgers.{Ledger}
use Rattle.programme.specs.Shown.{Shows}
use Rattle.programme.specs.declared.sheets.Sheet.{Sheet}
use Rattle.qcue.specs.Records.{length_of, behind, Whole}
use Rattle.qcue.specs.Loaded.{Rule, rank, Loads, done, broken, denied, onward, Says}
use Rattle.qcue.specs.Taken.{Along, Took, Takes, ShowsLoaded}
use Rattle.qcue.specs.declared.loading.Expected.{Expected}
use Rattle.qcue.specs.declared.loading.Expected.TheVariants.{Head, Nothing}
use Rattle.qcue.specs.declared.loading.Loader.{Loader}
use Rattle.qcue.specs.declared.refusals.Fault.{Fault}
use Rattle.qcue.specs.declared.refusals.FileRefusal.{FileRefusal}
use Rattle.qcue.specs.declared.refusals.FileRefusal.TheVariants.{TooShort, Occupied, Trailing, Unfinished, Cut}
use Rattle.qcue.specs.declared.refusals.FileRefusal.TheVariants.{UnknownKind, Misplaced, WrongLength, OtherStamp, WrongCount}
use Rattle.qcue.specs.declared.refusals.Reason.{Reason}
use Rattle.qcue.specs.declared.refusals.Reason.TheVariants.{File, Sheet as Denied}

-- how far the load of a file into the ledger L has come
pub record Reached (m : Meaning) (s : Sheet) (L : Ledger) (all : List ℕ) (l : Loader) (rest : List ℕ) (offset : ℕ) : Type 0 where
  pub so_far : Ledger
  pub shown : Shows m s so_far
  pub along : Along l so_far
  pub back : (r : Result ℕ Fault) (K : Ledger) → Loads (Says m) m l.expected so_far offset rest r K →
      Loads (Says m) m Head L 0 all r K

pub no_ties : (n : ℕ) (ties : List Tie) → Proper n ties → n ≡ 0 → length ties ≡ 0
no_ties n [] p e = refl
no_ties n (t ∷ ties) p e = let h = (p t (Memᴰ.head refl)).first_in in absurd (omega arith)

pub set_out : (m : Meaning) (s : Sheet) (L : Ledger) (all : List ℕ) (l : Loader) → l.expected ≡ Head → l.ties ≡ 0 →
    Shows m s L → length L.names ≡ 0 → Reached m s L all l all 0
set_out m s L all l first zero w e = record {
  so_far = L;
  shown = w;
  along = record { tied = zero ∙ sym (no_ties (length L.names) L.ties w.proper e); fresh = λ _. e };
  back = λ r K h. rw first at h;
}

-- the offset and what remains make up the file
pub place_on : (all rest more : List ℕ) (offset n : ℕ) → Whole rest → n ≡ length_of rest → more ≡ drop n rest →
    offset + length rest ≡ length all → offset + n + length more ≡ length all
place_on all rest more offset n w long is h = omega (arith, ap length is ∙ length-drop n rest, w.inside)

-- the answer to the whole file, and what the sheet shows then
abbrev Ending : Meaning → Sheet → Ledger → List ℕ → Result ℕ Fault → Type 0
Ending m t L all r = (K : Ledger) × Loads (Says m) m Head L 0 all r K × ShowsLoaded m t K r

module _ (m n : Meaning) (same : n ≡ m) (s t : Sheet) (L : Ledger) (all rest : List ℕ) (l k : Loader) (offset : ℕ)
    (reached : Reached m s L all l rest offset) where
  moved : (K : Ledger) → Took m l reached.so_far rest t k K → Reached m t L all k (behind rest) (offset + length_of rest)
  moved K took = record {
    so_far = K;
    shown = took.shown;
    along = took.along;
    back = λ r J h. reached.back r J (onward took.kept took.served (rw took.next at h));
  }

  pub went_on : (len : ℕ) (more : List ℕ) → Takes n s l rest t k (Ok len) → len ≡ length_of rest → more ≡ drop len rest →
      Reached m t L all k more (offset + len)
  went_on len more takes long is =
      let (K, took) = (rw same at takes) reached.so_far reached.shown reached.along in
      rw (is, long) (moved K took)

  pub halted : (reason : Reason) → l.expected ≢ Nothing → Takes n s l rest t k (Err reason) →
      Ending m t L all (Err (record { reason = reason; offset = offset }))
  halted (File refusal) unended takes =
      let why = (rw same at takes) reached.so_far reached.shown reached.along in
      (reached.so_far, reached.back _ _ (broken (λ e. absurd (unended e)) why), tt)
  halted (Denied refusal) unended takes =
      let why = (rw same at takes) reached.so_far reached.shown reached.along in
      (reached.so_far, reached.back _ _ (denied why.0 why.1), tt)

-- only the rule against entries comes before the one against bytes that follow the end
before_trailing : (P : Stamp → Type 0) (x : Expected) (entries ties : ℕ) (bytes : List ℕ) → (x ≡ Head → entries ≡ 0) →
    (earlier : FileRefusal) → rank earlier < 1 → Rule P x entries ties bytes earlier
before_trailing P x entries ties bytes fresh Occupied h = fresh
before_trailing P x entries ties bytes fresh TooShort h = absurd (omega arith)
before_trailing P x entries ties bytes fresh Trailing h = absurd (omega arith)
before_trailing P x entries ties bytes fresh Unfinished h = absurd (omega arith)
before_trailing P x entries ties bytes fresh Cut h = absurd (omega arith)
before_trailing P x entries ties bytes fresh UnknownKind h = absurd (omega arith)
before_trailing P x entries ties bytes fresh Misplaced h = absurd (omega arith)
before_trailing P x entries ties bytes fresh WrongLength h = absurd (omega arith)
before_trailing P x entries ties bytes fresh OtherStamp h = absurd (omega arith)
before_trailing P x entries ties bytes fresh WrongCount h = absurd (omega arith)

module _ (m : Meaning) (s : Sheet) (L : Ledger) (all rest : List ℕ) (l : Loader) (offset : ℕ) (ended : l.expected ≡ Nothing)
    (reached : Reached m s L all l rest offset) where
  pub trailing : length rest ≢ 0 → Ending m s L all (Err (record { reason = File Trailing; offset = offset }))
  trailing some = (
    reached.so_far,
    reached.back _ _ (broken (λ _. some) (record {
      breach = λ unended. unended ended;
      first = before_trailing _ _ _ _ _ reached.along.fresh;
    })),
    tt,
  )

  pub finished : length rest ≡ 0 → Ending m s L all (Ok 0)
  finished none = (reached.so_far, reached.back _ _ (done ended none), reached.shown)
