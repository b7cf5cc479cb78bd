-- Ties that numbers meet: what one pair tells, the pairs one after the other, and the whole answer.
use Rattle.std.proofs.Common.{◌≡◌, ℕ, ◌+◌, ◌*◌, ◌<◌, ◌≤◌, Bool, ◌⊎◌, length, Some, None, Ok, Err, Decides, Option, Result, sym, refl, inl, inr, arith}
use Rattle.std.proofs.lemmas.Bool.{cases_eq, cases_lt}
use Rattle.algebra.specs.Meaning.{Meaning}
use Rattle.algebra.specs.Things.{Relation, In as Between}
use Rattle.algebra.specs.Timed.{Group, Measured}
use Rattle.network.specs.Ties.{In, Tie, Among, Joins, Tied}
use Rattle.network.proofs.Links.{apart, joined, tied?}
use Rattle.programme.specs.Networks.{cell}
use Rattle.programme.specs.Ledgers.{Ledger}
use Rattle.programme.specs.Shown.{Shows}
use Rattle.programme.specs.Pairs.{Before}
use Rattle.programme.specs.Fitted.{group_at, TieMet, PairMet, Grouped, Fits, FirstUnmet, Fitted}
use Rattle.programme.proofs.Grouping.{group_before}
use Rattle.programme.specs.declared.fitting.Misfit.{Misfit}
use Rattle.programme.specs.declared.fitting.Misfit.TheVariants.{Miscounted, NoThing}
use Rattle.programme.specs.declared.sheets.Sheet.{Sheet}

-- what is given between i and j, if anything is, has the reading that stands between their groups
abbrev pub Clear : ℕ → (ℕ → Relation Group) → Sheet → Group → ℕ → ℕ → Type 0
Clear size Stand s numbers i j =
    (cell s.given i j ≡ 0) ⊎ Between Stand (cell s.given i j) (group_at size numbers i) (group_at size numbers j)

-- so it is with each pair before i and j
abbrev pub ClearTo : ℕ → (ℕ → Relation Group) → Sheet → Group → ℕ → ℕ → Type 0
ClearTo size Stand s numbers i j = (a b : ℕ) → a < b → b < s.count → Before a b i j → Clear size Stand s numbers a b

module _ (size : ℕ) (Stand : ℕ → Relation Group) (s : Sheet) (numbers : Group) where
  -- what the test of a pair tells
  pub tested : (i j set : ℕ) (from to : Group) (b : Bool) → set ≡ cell s.given i j → from ≡ group_at size numbers i →
      to ≡ group_at size numbers j → Decides b ((set ≡ 0) ⊎ Between Stand set from to) →
      Decides b (Clear size Stand s numbers i j)
  tested i j set from to b p q r d = rw (p, q, r) at d

  pub clear_more : (i j : ℕ) → ClearTo size Stand s numbers i j → Clear size Stand s numbers i j →
      ClearTo size Stand s numbers i (j + 1)
  clear_more i j before here a b l k (inl x) = before a b l k (inl x)
  clear_more i j before here a b l k (inr (e, x)) =
      elim (cases_eq b j) [ inl f ↦ rw (e, f) here | inr n ↦ before a b l k (inr (e, omega arith)) ]

module _ (m : Meaning) (size : ℕ) (Thing : Group → Type 0) (Stand : ℕ → Relation Group) (d : Measured m size Thing Stand)
    (s : Sheet) (L : Ledger) (w : Shows m s L) (numbers : Group) where
  -- ---- one pair

  clear_met : (i j : ℕ) → Clear size Stand s numbers i j → PairMet size Stand numbers L.ties i j
  clear_met i j (inl e) t a x = absurd (w.given_some i j (t, a, x) e)
  clear_met i j (inr (r, h, st)) t a x =
      let k = ((w.given i j).some (t, a, x) r).0 h in
      elim x [
        | inl e ↦ rw (e.0, e.1) (r, k.forth t a e, st)
        | inr e ↦ rw (e.0, e.1) (m.converse r, k.back t a e, d.converse r _ _ st)
      ]

  stand_in : (t : Tie) (i j r : ℕ) → Joins t i j → Stand r (group_at size numbers i) (group_at size numbers j) →
      TieMet size Stand numbers t → In r t.mask
  stand_in t i j r e st (q, h, u) = rw (d.only r q _ _ st (rw (e.0, e.1) at u)) h

  module _ (i j : ℕ) (n : ¬ Clear size Stand s numbers i j) where
    unclear_tied : Tied L.ties i j
    unclear_tied = elim (tied? L.ties i j) [ yes x ↦ x | no u ↦ absurd (n (inl ((w.given i j).none u))) ]

    unclear_unmet : Thing (group_at size numbers i) → Thing (group_at size numbers j) →
        ¬ PairMet size Stand numbers L.ties i j
    unclear_unmet x y met =
        let g = group_at size numbers i in
        let h = group_at size numbers j in
        let (r, st) = d.between g h x y in
        n (inr (
          r,
          ((w.given i j).some unclear_tied r).1 (record {
            reading = d.reading r g h st;
            forth = λ t a e. stand_in t i j r e st (met t a (inl e));
            back = λ t a e. stand_in t j i (m.converse r) e (d.converse r g h st) (met t a (inr e));
          }),
          st,
        ))

  -- ---- the answer

  module _ (full : length numbers ≡ s.count * size) where
    pub no_thing : 0 < size → (i : ℕ) × (i * size + size ≤ length numbers) × ¬ Thing (group_at size numbers i) →
        Fitted size Thing Stand L numbers (Err NoThing)
    no_thing some (i, h, n) =
        (rw (← w.counted) full, (i, omega (arith, w.counted, group_before _ _ _ i some h full), n))

    module _ (things : (i : ℕ) → i < s.count → Thing (group_at size numbers i)) where
      grouped : Grouped size Thing L numbers
      grouped = record { counted = rw (← w.counted) full; things = λ i h. things i (omega (arith, w.counted)) }

      all_met : (i : ℕ) → s.count ≤ i → ClearTo size Stand s numbers i (i + 1) → Fits size Thing Stand L numbers
      all_met i h before = record { grouped = grouped; met = met }
        where
          met : (t : Tie) → Among t L.ties → TieMet size Stand numbers t
          met t a =
              let q = w.proper t a in
              let n = w.counted in
              elim (cases_lt t.first t.second) [
                | inl l ↦
                    clear_met t.first t.second (before _ _ l (omega arith) (inl (omega arith))) t a (inl (refl, refl))
                | inr g ↦
                    clear_met t.second t.first (before _ _ (omega arith) (omega arith) (inl (omega arith))) t a
                    (inr (refl, refl))
              ]

      pub none_unmet : (o : Option (ℕ × ℕ)) (i : ℕ) → o ≡ None → s.count ≤ i → ClearTo size Stand s numbers i (i + 1) →
          Fitted size Thing Stand L numbers (Ok o)
      none_unmet o i e h before = rw e (all_met i h before)

      pub first_unmet : (i j : ℕ) → i < j → j < s.count → ClearTo size Stand s numbers i j →
          ¬ Clear size Stand s numbers i j → FirstUnmet size Thing Stand L numbers i j
      first_unmet i j l h before n = record {
        grouped = grouped;
        smaller = l;
        tied = unclear_tied i j n;
        unmet = unclear_unmet i j n (things i (omega arith)) (things j h);
        earlier = λ a b k x y.
            let q = (apart w.proper (joined y)).second_in in
            clear_met a b (before a b k (omega (arith, w.counted)) x);
      }

-- ---- numbers have one answer

module _ (size : ℕ) (Thing : Group → Type 0) (Stand : ℕ → Relation Group) (L : Ledger) (numbers : Group) where
  -- of two first pairs neither comes before the other
  one_pair : (i j a b : ℕ) → FirstUnmet size Thing Stand L numbers i j → FirstUnmet size Thing Stand L numbers a b →
      ¬ Before i j a b
  one_pair i j a b p q x = p.unmet (q.earlier i j p.smaller x p.tied)

  same_pair : (i j a b : ℕ) → FirstUnmet size Thing Stand L numbers i j → FirstUnmet size Thing Stand L numbers a b →
      (i ≡ a) × (j ≡ b)
  same_pair i j a b p q =
      let f = one_pair i j a b p q in
      let g = one_pair a b i j q p in
      elim (cases_eq i a) [
        | inl e ↦ elim (cases_eq j b) [
          | inl k ↦ (e, k)
          | inr n ↦ elim (cases_lt j b) [ inl l ↦ absurd (f (inr (e, l))) | inr l ↦ absurd (g (inr (sym e, omega arith))) ]
        ]
        | inr n ↦ elim (cases_lt i a) [ inl l ↦ absurd (f (inl l)) | inr l ↦ absurd (g (inl (omega arith))) ]
      ]

  pub one_fitting : (these those : Result (Option (ℕ × ℕ)) Misfit) → Fitted size Thing Stand L numbers these →
      Fitted size Thing Stand L numbers those → these ≡ those
  one_fitting (Ok None) (Ok None) p q = refl
  one_fitting (Ok None) (Ok (Some (i, j))) p q = absurd (q.unmet (λ t a e. p.met t a))
  one_fitting (Ok None) (Err Miscounted) p q = absurd (q p.grouped.counted)
  one_fitting (Ok None) (Err NoThing) p (c, (i, h, n)) = absurd (n (p.grouped.things i h))
  one_fitting (Ok (Some (i, j))) (Ok None) p q = absurd (p.unmet (λ t a e. q.met t a))
  one_fitting (Ok (Some (i, j))) (Ok (Some (a, b))) p q = let (e, f) = same_pair i j a b p q in rw (e, f)
  one_fitting (Ok (Some (i, j))) (Err Miscounted) p q = absurd (q p.grouped.counted)
  one_fitting (Ok (Some (i, j))) (Err NoThing) p (c, (k, h, n)) = absurd (n (p.grouped.things k h))
  one_fitting (Err Miscounted) (Ok None) p q = absurd (p q.grouped.counted)
  one_fitting (Err Miscounted) (Ok (Some (i, j))) p q = absurd (p q.grouped.counted)
  one_fitting (Err Miscounted) (Err Miscounted) p q = refl
  one_fitting (Err Miscounted) (Err NoThing) p q = absurd (p q.0)
  one_fitting (Err NoThing) (Ok None) (c, (i, h, n)) q = absurd (n (q.grouped.things i h))
  one_fitting (Err NoThing) (Ok (Some (i, j))) (c, (k, h, n)) q = absurd (n (q.grouped.things k h))
  one_fitting (Err NoThing) (Err Miscounted) p q = absurd (q p.0)
  one_fitting (Err NoThing) (Err NoThing) p q = refl
