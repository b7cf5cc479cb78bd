-- What load and write answer.
use Rattle.std.proofs.Common.{◌≡◌, ℕ, ◌^◌, ◌<◌, ◌≤◌, ◌≢◌, ◌↔◌, List, [], length, Ok, Err, Result, sym, refl, ap, ◌∙◌, zero-add, arith}
use lib.Seq.{take-length}
use Rattle.std.proofs.lemmas.List.{nil_from_length}
use Rattle.algebra.specs.Meaning.{Meaning, Lawful}
use Rattle.network.specs.Ties.{Tie}
use Rattle.programme.specs.Ledgers.{Ledger, blank}
use Rattle.programme.specs.Grown.{Orderly}
use Rattle.programme.specs.Shown.{Shows}
use Rattle.programme.specs.declared.sheets.Sheet.{Sheet}
use Rattle.qcue.specs.Loaded.{Loads, broken, Says}
use Rattle.qcue.specs.Held.{Loadable}
use Rattle.qcue.specs.Written.{file_bytes, FileOf, LoadsBack}
use Rattle.qcue.specs.Performed.{LoadKeeps}
use Rattle.qcue.specs.Taken.{TakesAll}
use Rattle.qcue.specs.Laid.{PutFile, WrittenAs}
use Rattle.qcue.specs.declared.loading.Expected.TheVariants.{Head, Nothing}
use Rattle.qcue.specs.declared.refusals.Fault.{Fault}
use Rattle.qcue.specs.declared.refusals.FileRefusal.TheVariants.{Occupied}
use Rattle.qcue.specs.declared.refusals.Reason.TheVariants.{File}
use Rattle.qcue.proofs.Determined.{weaken, one_load}
use Rattle.qcue.proofs.Holding.{loads_exactly}
use Rattle.qcue.proofs.Progress.{no_ties}
use Rattle.qcue.proofs.Pairs.{one_list}
use Rattle.qcue.proofs.Returning.{loads_back}

-- ---- load

-- a copy takes what the programme would
pub takes_same : (m n : Meaning) (s c : Sheet) (bytes : List ℕ) (t : Sheet) (r : Result ℕ Fault) → n ≡ m → c ≡ s →
    TakesAll n c bytes t r → TakesAll m s bytes t r
takes_same m n s c bytes t r meaning sheet takes = rw (meaning, sheet) at takes

head_first : Head ≢ Nothing
head_first e = let z : ◌≡◌ {A = ℕ} 0 1 = cc in omega arith

no_answer : (fault : Fault) (n : ℕ) → ¬ (◌≡◌ {A = Result ℕ Fault} (Err fault) (Ok n))
no_answer fault n e = let z : ◌≡◌ {A = ℕ} 0 1 = cc in omega arith

blank_is : (L : Ledger) → L.names ≡ [] → L.ties ≡ [] → L ≡ blank
blank_is L names ties =
    ap (λ (these : List (List ℕ)). record { names = these; ties = L.ties }) names
    ∙ ap (λ (these : List Tie). record { names = []; ties = these }) ties

module _ (m : Meaning) (s : Sheet) (bytes : List ℕ) (n : ℕ) (counted : (L : Ledger) → Shows m s L → n ≡ length L.names) where
  -- a programme that has entries
  pub occupied : n ≢ 0 → LoadKeeps m s bytes (Err (record { reason = File Occupied; offset = 0 })) s
  occupied some = record {
    answered = λ L w. (
      L,
      broken (λ e. absurd (head_first e)) (record {
        breach = λ empty. some (counted L w ∙ empty refl);
        first = λ earlier h. absurd (omega arith);
      }),
      w,
    );
    exactly = λ L w. (
      λ e. absurd (no_answer _ 0 e),
      λ loadable. absurd (some (counted L w ∙ loadable.0)),
    );
    refused = refl;
  }

  module _ (none : n ≡ 0) where
    empty : (L : Ledger) → Shows m s L → length L.names ≡ 0
    empty L w = sym (counted L w) ∙ none

    start : (L : Ledger) → Shows m s L → L ≡ blank
    start L w =
        blank_is L (nil_from_length L.names (empty L w))
        (nil_from_length L.ties (no_ties (length L.names) L.ties w.proper (empty L w)))

    exact : (L K : Ledger) (r : Result ℕ Fault) → Shows m s L → Loads (Says m) m Head L 0 bytes r K →
        (r ≡ Ok 0) ↔ ((length L.names ≡ 0) × (J : Ledger) × Loadable m bytes J)
    exact L K r w h =
        let loads = rw (start L w) at (weaken (λ L ask r says. says.0) h) in (
          λ e. (empty L w, K, (loads_exactly m bytes K).0 (rw e at loads)),
          λ (_, J, loadable). (one_load m Head blank K J 0 bytes r (Ok 0) loads ((loads_exactly m bytes J).1 loadable)).0,
        )

    pub refused_keeps : (t : Sheet) (fault : Fault) → TakesAll m s bytes t (Err fault) → LoadKeeps m s bytes (Err fault) s
    refused_keeps t fault takes = record {
      answered = λ L w. let (K, h, _) = takes L w (empty L w) in (K, h, w);
      exactly = λ L w. let (K, h, _) = takes L w (empty L w) in exact L K (Err fault) w h;
      refused = refl;
    }

    pub loaded_keeps : (t : Sheet) (k : ℕ) → TakesAll m s bytes t (Ok k) → LoadKeeps m s bytes (Ok k) t
    loaded_keeps t k takes = record {
      answered = λ L w. takes L w (empty L w);
      exactly = λ L w. let (K, h, _) = takes L w (empty L w) in exact L K (Ok k) w h;
      refused = tt;
    }

-- ---- write

module _ (m : Meaning) (s : Sheet) where
  -- a ledger has one file
  one_file : (L : Ledger) (these those : List ℕ) → FileOf m L these → FileOf m L those → these ≡ those
  one_file L these those (a, p, e) (b, q, f) = rw (e, f, one_list m L a b p q) refl

  module _ (law : Lawful m) (house : m.stamp.house < 2 ^ 32) where
    back : (L : Ledger) (bytes : List ℕ) → Shows m s L → FileOf m L bytes → Orderly m L → LoadsBack m L bytes
    back L bytes w (rows, pairs, e) o =
        let (K, loadable, same) = loads_back m s L rows law house w o pairs in
        (K, rw e ((loads_exactly m (file_bytes m.stamp L.names rows) K).1 loadable), same)

    pub written : (old new none left : List ℕ) (n k : ℕ) → PutFile m s none left n → n ≤ length old → PutFile m s old new k →
        WrittenAs m s old new (Ok k)
    written old new none left n k p h q L w =
        let bytes = q.bytes in
        let same : p.bytes ≡ bytes = one_file L _ _ (p.file L w) (q.file L w) in
        let long : k ≡ length bytes = omega (arith, q.put.ends) in
        let fits : k ≤ length old = omega (arith, p.put.ends, ap length same) in (
          bytes,
          q.file L w,
          long,
          q.put.there fits ∙ rw (take-length bytes, zero-add (length bytes), long) refl,
          back L bytes w (q.file L w),
        )
