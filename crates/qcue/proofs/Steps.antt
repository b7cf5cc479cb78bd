-- One record of a load: what the loader and the programme do, as the ledger says it.
use Rattle.std.proofs.Common.{◌≡◌, ℕ, ◌+◌, Bool, true, false, cond, eqb, ◌≢◌, List, length, Some, None, Ok, Err, Option, sym, refl, ap, ◌∙◌, arith}
use Rattle.std.proofs.lemmas.List.{length_push}
use Rattle.std.proofs.lemmas.Bool.{eqb-true, ne_eqb, false≢true}
use Rattle.algebra.specs.Meaning.{Meaning}
use Rattle.algebra.specs.declared.interface.Stamp.{Stamp}
use Rattle.programme.specs.Ledgers.{Ledger, Ask, enter, tie, taken}
use Rattle.programme.specs.Performed.{ask_of}
use Rattle.programme.specs.Shown.{Shows}
use Rattle.programme.specs.Kept.{Keeps}
use Rattle.programme.specs.declared.lines.Call.{Call}
use Rattle.programme.specs.declared.refusals.Refusal.{Refusal}
use Rattle.programme.specs.declared.sheets.Sheet.{Sheet}
use Rattle.qcue.specs.Records.{kind_of, payload_of}
use Rattle.qcue.specs.Loaded.{ask_in, Served, KeptBy, BrokenBy, Says}
use Rattle.qcue.specs.Read.{asked_by, ties_with, Fresh, Step, NoStep}
use Rattle.qcue.specs.Taken.{Along, Took}
use Rattle.qcue.specs.declared.loading.Expected.TheVariants.{Head, Entries, Ties, Nothing}
use Rattle.qcue.specs.declared.loading.Loader.{Loader}
use Rattle.qcue.specs.declared.refusals.FileRefusal.{FileRefusal}

-- what comes behind a record is no head
no_head : (b c : Bool) → cond b Nothing (cond c Ties Entries) ≢ Head
no_head true c e = let z : ◌≡◌ {A = ℕ} 0 1 = cc in omega arith
no_head false true e = let z : ◌≡◌ {A = ℕ} 0 1 = cc in omega arith
no_head false false e = let z : ◌≡◌ {A = ℕ} 0 1 = cc in omega arith

-- how many ties the ledger has after what a record asks
ties_taken : (L : Ledger) (entry tied : Bool) (name : List ℕ) (i j mask : ℕ) (ask : Ask) → (entry ≡ true → tied ≡ false) →
    cond entry (Some (enter name)) (cond tied (Some (tie i j mask)) None) ≡ Some ask →
    length (taken L ask).ties ≡ cond tied (length L.ties + 1) (length L.ties)
ties_taken L true true name i j mask ask apart e = absurd (false≢true (sym (apart refl)))
ties_taken L true false name i j mask ask apart e = let is : ask ≡ enter name = cc in rw is refl
ties_taken L false true name i j mask ask apart e = let is : ask ≡ tie i j mask = cc in rw is (length_push L.ties _)
ties_taken L false false name i j mask ask apart e = let z : ◌≡◌ {A = ℕ} 0 1 = cc in absurd (omega arith)

entry_or_tie : (kind : ℕ) → eqb kind 2 ≡ true → eqb kind 3 ≡ false
entry_or_tie kind e = let two = eqb-true kind 2 e in ne_eqb kind 3 (λ three. omega arith)

none_tied : (entry tied : Bool) (name : List ℕ) (i j mask n : ℕ) →
    cond entry (Some (enter name)) (cond tied (Some (tie i j mask)) None) ≡ None → cond tied (n + 1) n ≡ n
none_tied true tied name i j mask n e = let z : ◌≡◌ {A = ℕ} 0 1 = cc in absurd (omega arith)
none_tied false true name i j mask n e = let z : ◌≡◌ {A = ℕ} 0 1 = cc in absurd (omega arith)
none_tied false false name i j mask n e = refl

module _ (m : Meaning) (s : Sheet) (l : Loader) (bytes : List ℕ) (stamp : Stamp) (entries : ℕ) (is : stamp ≡ m.stamp)
    (counted : (L : Ledger) → Shows m s L → entries ≡ length L.names) (L : Ledger) (w : Shows m s L) (a : Along l L) where
  abbrev kind : ℕ
  kind = kind_of bytes

  abbrev payload : List ℕ
  payload = payload_of bytes

  fresh : Fresh l entries
  fresh e = counted L w ∙ a.fresh e

  pub refused : (refusal : FileRefusal) → NoStep stamp entries bytes l refusal → BrokenBy m l.expected L bytes refusal
  refused refusal n = rw (← is, ← counted L w, ← a.tied) (n fresh)

  module _ (k : Loader) (found : Option Call × ℕ) (step : Step stamp entries bytes l k found) where
    pub kept : KeptBy m l.expected L bytes
    kept = rw (← is, ← counted L w, ← a.tied) (step.kept fresh)

    along : (K : Ledger) → length K.ties ≡ ties_with kind (length L.ties) → Along k K
    along K e = record {
      tied = step.counted ∙ ap (ties_with kind) a.tied ∙ sym e;
      fresh = λ h. absurd (no_head (eqb kind 4) (eqb kind 3) (sym step.next ∙ h));
    }

    pub passed : found.0 ≡ None → Took m l L bytes s k L
    passed e =
        let none : ask_in kind payload ≡ None = step.asked ∙ ap asked_by e in
        record {
          kept = kept;
          served = rw none refl;
          shown = w;
          next = step.next;
          along = along L (sym (none_tied (eqb kind 2) (eqb kind 3) payload _ _ _ (length L.ties) none));
        }

    module _ (call : Call) (e : found.0 ≡ Some call) where
      asked : ask_in kind payload ≡ Some (ask_of call)
      asked = step.asked ∙ ap asked_by e

      pub performed : (t : Sheet) (n : ℕ) → Keeps m s (ask_of call) (Ok n) t → Took m l L bytes t k (taken L (ask_of call))
      performed t n keeps = record {
        kept = kept;
        served = rw asked (n, (keeps.answered L w, keeps.timely L w), refl);
        shown = keeps.shown L w;
        next = step.next;
        along = along _ (ties_taken L (eqb kind 2) (eqb kind 3) payload _ _ _ (ask_of call) (entry_or_tie kind) asked);
      }

      pub denied : (t : Sheet) (refusal : Refusal) → Keeps m s (ask_of call) (Err refusal) t →
          Served (Says m) L (ask_in kind payload) (Err refusal)
      denied t refusal keeps = rw asked (keeps.answered L w, keeps.timely L w)
