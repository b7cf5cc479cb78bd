-- Adding an entry: which names are refused, and the sheet with one entry more.
use Rattle.std.proofs.Common.{◌≡◌, ℕ, ◌<◌, ◌≤◌, ◌≢◌, ◌⊎◌, List, [], ◌∷◌, length, get_or, Ok, Err, sym, ap, ◌∙◌, inl, inr, arith}
use Rattle.std.proofs.lemmas.Bool.{cases_eq}
use Rattle.std.proofs.lemmas.List.{length_push, get_or_push, get_or_append_left}
use Rattle.algebra.specs.Meaning.{Meaning}
use Rattle.programme.specs.Spelled.{name_of, nobody}
use Rattle.programme.specs.Ledgers.{Ledger, enter, taken, number, Unseen, Answered}
use Rattle.programme.specs.Shown.{Shows}
use Rattle.programme.specs.Written.{Entered}
use Rattle.programme.specs.declared.naming.Name.{Name}
use Rattle.programme.specs.declared.refusals.Refusal.TheVariants.{Known}
use Rattle.programme.specs.declared.sheets.Sheet.{Sheet}
use Rattle.programme.proofs.Spelling.{name_same}
use Rattle.programme.proofs.Refusing.{no_name_fault}

module _ (m : Meaning) (s : Sheet) (L : Ledger) (w : Shows m s L) (text : List ℕ) (held : Name) (is : held ≡ name_of text)
    (some : length text ≢ 0) (fits : length text ≤ 12) (seen : (k : ℕ) → k < length text → ¬ Unseen (get_or text k 0)) where
  sized : ¬ ((length text ≡ 0) ⊎ (12 < length text))
  sized x = elim x [ inl e ↦ some e | inr h ↦ omega arith ]

  pub known_answered : ((k : ℕ) × (k < s.count) × (get_or s.names k nobody ≡ held)) → Answered m L (enter text) (Err Known)
  known_answered (k, h, e) = (
    (k, omega (arith, w.counted), name_same _ _ (sym (w.named k h) ∙ e ∙ is)),
    no_name_fault L text (λ refusal. number refusal < 3) (λ _. sized) (λ _ (k, h, x). seen k h x)
        (λ h. absurd (omega arith)) (λ h. absurd (omega arith)),
  )

  module _ (new : ¬ ((k : ℕ) × (k < s.count) × (get_or s.names k nobody ≡ held))) (room : s.count < 48) where
    pub entered_answered : Answered m L (enter text) (Ok s.count)
    entered_answered = (
      w.counted,
      λ refusal.
          no_name_fault L text (λ _. Unit {0}) (λ _. sized) (λ _ (k, h, x). seen k h x)
          (λ _ (k, h, e). let p : k < s.count = omega (arith, w.counted) in new (k, p, w.named k p ∙ ap name_of e ∙ sym is))
          (λ _ h. omega (arith, w.counted)) refusal tt,
    )

    pub entered_shows : (t : Sheet) → Entered s held t → Shows m t (taken L (enter text))
    entered_shows t e = record {
      counted = omega (arith, e.count, w.counted, length_push L.names text);
      room = omega (arith, e.count);
      named = λ k h.
          elim (cases_eq k s.count) [
            | inl q ↦ rw q (e.there ∙ is ∙ ap name_of (sym (get_or_push L.names text [] s.count (sym w.counted))))
            | inr d ↦
                let p : k < s.count = omega (arith, e.count) in
                e.others k d ∙ w.named k p
                ∙ ap name_of (sym (get_or_append_left L.names (text ∷ []) [] k (omega (arith, w.counted))))
          ];
      proper = λ t a.
          let p = w.proper t a in
          let n = length_push L.names text in
          record { first_in = omega (arith, p.first_in); second_in = omega (arith, p.second_in); differ = p.differ };
      given = λ i j. rw e.given (w.given i j);
      given_some = λ i j. rw e.given (w.given_some i j);
      network = rw e.network w.network;
      clear = rw e.network w.clear;
    }
