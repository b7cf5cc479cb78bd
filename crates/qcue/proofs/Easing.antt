-- Easing: ties that say no more than others; the rows of a file say no more than the ledger's ties, nor these than the rows.
use Rattle.std.proofs.Common.{ℕ, List, refl, inl, inr}
use Rattle.std.proofs.lemmas.Bool.{cases_order}
use Rattle.algebra.specs.Meaning.{Meaning, Lawful}
use Rattle.network.specs.Ties.{In, Tie, Among, Proper, Tied, Allowed, Given}
use Rattle.network.specs.Candidates.{Follows}
use Rattle.network.proofs.Links.{apart, joined, linked_too}
use Rattle.network.proofs.Following.{alike}
use Rattle.programme.specs.Ledgers.{Ledger}
use Rattle.programme.proofs.Taking.{closed_allowed}
use Rattle.qcue.specs.Written.{TiedPair, TiedPairs, SameLedger}

-- each pair that these tie is tied by those, which allow no more there
pub record Easier (m : Meaning) (these those : List Tie) : Type 0 where
  pub tied : (i j : ℕ) → Tied these i j → Tied those i j
  pub allowed : (i j r : ℕ) → Tied these i j → Allowed m those i j r → Allowed m these i j r

pub easier_follows : (m : Meaning) (these those : List Tie) → Easier m these those → Follows m these those
easier_follows m these those p = record {
  linked = λ t a. joined (p.tied _ _ (t, a, inl (refl, refl)));
  under = λ D c t a r h.
      let x : Tied these t.first t.second = (t, a, inl (refl, refl)) in
      (p.allowed _ _ r x (closed_allowed m those D _ _ r c (p.tied _ _ x) h)).forth t a (refl, refl);
}

given_too : (m : Meaning) (these those : List Tie) → Easier m these those → Easier m those these →
    (i j g : ℕ) → Given m these i j g → Given m those i j g
given_too m these those p q i j g w = record {
  some = λ x r.
      let y = q.tied i j x in
      let v = w.some y r in
      (λ h. q.allowed i j r x (v.0 h), λ h. v.1 (p.allowed i j r y h));
  none = λ n. w.none (λ x. n (p.tied i j x));
}

-- what is easier both ways tells the same
pub easier_same : (m : Meaning) (names : List (List ℕ)) (these those : List Tie) → Easier m these those →
    Easier m those these → SameLedger m (record { names = names; ties = these }) (record { names = names; ties = those })
easier_same m names these those p q =
    let f = easier_follows m these those p in
    let g = easier_follows m those these q in
    record {
      names = refl;
      given = λ i j set. (given_too m these those p q i j set, given_too m those these q p i j set);
      linked = λ i j. (linked_too f.linked, linked_too g.linked);
      settled = λ S. (alike m those these S g f, alike m these those S f g);
    }

-- ---- rows of tied pairs

turned_tied : {ties : List Tie} {i j : ℕ} → Tied ties i j → Tied ties j i
turned_tied (t, a, e) = (t, a, elim e [ inl x ↦ inr x | inr x ↦ inl x ])

module _ (m : Meaning) (l : Lawful m) where
  turned_allowed : {ties : List Tie} {i j r : ℕ} → Allowed m ties i j r → Allowed m ties j i (m.converse r)
  turned_allowed {r = r} w = record {
    reading = l.converse_in r w.reading;
    forth = w.back;
    back = λ t a e. rw (l.converse_twice r w.reading) (w.forth t a e);
  }

  module _ (L : Ledger) (rows : List Tie) where
    pub rows_easier : ((t : Tie) → Among t rows → TiedPair m L t) → Easier m rows L.ties
    rows_easier each = record {
      tied = λ i j (t, a, e). elim e [
        | inl (d, f) ↦ rw (← d, ← f) (each t a).tied
        | inr (d, f) ↦ rw (← d, ← f) (turned_tied (each t a).tied)
      ];
      allowed = λ i j r x w. record {
        reading = w.reading;
        forth = λ t a e. ((each t a).given.some (each t a).tied r).1 (rw (e.0, e.1) w);
        back = λ t a e. ((each t a).given.some (each t a).tied (m.converse r)).1 (rw (e.0, e.1) (turned_allowed w));
      };
    }

    pub ties_easier : (n : ℕ) → Proper n L.ties → TiedPairs m L rows → Easier m L.ties rows
    ties_easier n p w = record { tied = row; allowed = λ i j r x v. allow i j r v (row i j x) }
      where
        row : (i j : ℕ) → Tied L.ties i j → Tied rows i j
        row i j x = elim (cases_order i j) [
          | inl e ↦ absurd ((apart p (joined x)).differ e)
          | inr (inl h) ↦ let (t, a, e) = w.all i j h x in (t, a, inl e)
          | inr (inr h) ↦ let (t, a, e) = w.all j i h (turned_tied x) in (t, a, inr e)
        ]

        told : (t : Tie) → Among t rows → (r : ℕ) → In r t.mask → Allowed m L.ties t.first t.second r
        told t a r = ((w.each t a).given.some (w.each t a).tied r).0

        allow : (i j r : ℕ) → Allowed m rows i j r → Tied rows i j → Allowed m L.ties i j r
        allow i j r v (t, a, inl e) = rw (← e.0, ← e.1) (told t a r (v.forth t a e))
        allow i j r v (t, a, inr e) =
            let back = turned_allowed (told t a (m.converse r) (v.back t a e)) in
            rw (l.converse_twice r v.reading, e.0, e.1) at back
