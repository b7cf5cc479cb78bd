-- What is given: one cell written, and what a tie more allows between each pair.
use Rattle.std.proofs.Common.{◌≡◌, ℕ, ◌<◌, ◌≢◌, ◌↔◌, List, [], ◌∷◌, length, get_or, set, sym, refl, ap, ◌∙◌, subst, inl, inr, get_or-set_other, get_or-set_same}
use mathlib.Core.List.Memᴰ
use native.Mathlib.Decide.{ℕ_discrete}
use Rattle.std.proofs.lemmas.Bool.{cases_eq, eq-eqb, ne_eqb}
use Rattle.algebra.specs.Meaning.{Meaning, Lawful, converse_of}
use Rattle.algebra.specs.Bits.{has_cut, cut_has}
use Rattle.network.specs.Ties.{In, Tie, Among, Joins, Tied, Allowed, Given}
use Rattle.network.specs.Closing.{adding}
use Rattle.network.proofs.Sets.{converse_to, converse_from}
use Rattle.network.proofs.Links.{tied?, both?}
use Rattle.programme.specs.Networks.{cell, tie_of}
use Rattle.programme.specs.Written.{ground, GivenCuts}
use Rattle.programme.specs.declared.sheets.Sheet.{Sheet}

-- ---- one cell

module _ (rows : List (List ℕ)) (i j v : ℕ) (tall : i < length rows) where
  pub cell_same : j < length (get_or rows i []) → cell (set rows i (set (get_or rows i []) j v)) i j ≡ v
  cell_same wide =
      ap (λ (row : List ℕ). get_or row j 0) (get_or-set_same rows i (set (get_or rows i []) j v) [] tall)
      ∙ get_or-set_same (get_or rows i []) j v 0 wide

  pub cell_other : (a b : ℕ) → ¬ ((a ≡ i) × (b ≡ j)) → cell (set rows i (set (get_or rows i []) j v)) a b ≡ cell rows a b
  cell_other a b n =
      elim (cases_eq a i) [
        | inl e ↦
            rw e (
            ap (λ (row : List ℕ). get_or row b 0) (get_or-set_same rows i (set (get_or rows i []) j v) [] tall)
            ∙ get_or-set_other (get_or rows i []) j b v 0 (λ f. n (e, f)))
        | inr d ↦ ap (λ (row : List ℕ). get_or row b 0) (get_or-set_other rows i a (set (get_or rows i []) j v) [] d)
      ]

-- ---- one tie more

-- what holds of the new tie and of the old ones holds of all
pub each_tie : (ties : List Tie) (new : Tie) (P : Tie → Type 0) → P new → ((t : Tie) → Among t ties → P t) →
    (t : Tie) → Among t (adding ties new) → P t
each_tie ties new P p f t a =
    elim (Memᴰ.append_cases ties a) [
      | inl x ↦ f t x
      | inr x ↦ subst P (sym (Memᴰ.eq_of_singleton x)) p
    ]

module _ (m : Meaning) (l : Lawful m) (ties : List Tie) (i j mask : ℕ) (differ : i ≢ j) where
  abbrev new : Tie
  new = tie_of i j mask

  here : Among new (adding ties new)
  here = Memᴰ.append_right ties (Memᴰ.head refl)

  old : {a b r : ℕ} → Allowed m (adding ties new) a b r → Allowed m ties a b r
  old w = record {
    reading = w.reading;
    forth = λ t x. w.forth t (Memᴰ.append_left (new ∷ []) x);
    back = λ t x. w.back t (Memᴰ.append_left (new ∷ []) x);
  }

  there : (r : ℕ) → Allowed m (adding ties new) i j r ↔ (Allowed m ties i j r × In r mask)
  there r = (
    λ w. (old w, w.forth new here (refl, refl)),
    λ (w, h). record {
      reading = w.reading;
      forth = each_tie ties new (λ t. Joins t i j → In r t.mask) (λ _. h) w.forth;
      back = each_tie ties new (λ t. Joins t j i → In (m.converse r) t.mask) (λ e. absurd (differ e.0)) w.back;
    },
  )

  back : (r : ℕ) → Allowed m (adding ties new) j i r ↔ (Allowed m ties j i r × In (m.converse r) mask)
  back r = (
    λ w. (old w, w.back new here (refl, refl)),
    λ (w, h). record {
      reading = w.reading;
      forth = each_tie ties new (λ t. Joins t j i → In r t.mask) (λ e. absurd (differ e.0)) w.forth;
      back = each_tie ties new (λ t. Joins t i j → In (m.converse r) t.mask) (λ _. h) w.back;
    },
  )

  -- what a tie cuts is what the old ties allow
  grounded : (a b g : ℕ) → Given m ties a b g → (Tied ties a b → g ≢ 0) → (r : ℕ) →
      In r (ground m.universe g) ↔ Allowed m ties a b r
  grounded a b g w some r = go (tied? ties a b)
    where
      go : Dec (Tied ties a b) → In r (ground m.universe g) ↔ Allowed m ties a b r
      go (yes t) = rw (ne_eqb g 0 (some t)) (w.some t r)
      go (no n) = rw (eq-eqb g 0 (w.none n)) (
        λ h. record {
          reading = h;
          forth = λ t x e. absurd (n (t, x, inl e));
          back = λ t x e. absurd (n (t, x, inr e));
        },
        λ w. w.reading,
      )

  module _ (s t : Sheet) (given : (a b : ℕ) → Given m ties a b (cell s.given a b))
      (some : (a b : ℕ) → Tied ties a b → cell s.given a b ≢ 0) (cut : GivenCuts m s i j mask t) where
    given_there : Given m (adding ties new) i j (cell t.given i j)
    given_there = record {
      some = λ _ r. (
        λ h.
            let p = has_cut (ground m.universe (cell s.given i j)) mask r (rw cut.there at h) in
            (there r).1 ((grounded i j (cell s.given i j) (given i j) (some i j) r).0 p.0, p.1),
        λ w.
            let p = (there r).0 w in
            rw cut.there (cut_has (ground m.universe (cell s.given i j)) mask r
            ((grounded i j (cell s.given i j) (given i j) (some i j) r).1 p.0) p.1),
      );
      none = λ n. absurd (n (new, here, inl (refl, refl)));
    }

    given_back : Given m (adding ties new) j i (cell t.given j i)
    given_back = record {
      some = λ _ r. (
        λ h.
            let p = has_cut (ground m.universe (cell s.given j i)) (converse_of m mask) r (rw cut.back at h) in
            (back r).1 (
              (grounded j i (cell s.given j i) (given j i) (some j i) r).0 p.0,
              (converse_to m l mask r p.1).1,
            ),
        λ w.
            let p = (back r).0 w in
            rw cut.back (cut_has (ground m.universe (cell s.given j i)) (converse_of m mask) r
            ((grounded j i (cell s.given j i) (given j i) (some j i) r).1 p.0)
            (converse_from m l mask r w.reading p.1)),
      );
      none = λ n. absurd (n (new, here, inr (refl, refl)));
    }

    given_off : (a b : ℕ) → ¬ ((a ≡ i) × (b ≡ j)) → ¬ ((a ≡ j) × (b ≡ i)) → Given m (adding ties new) a b (cell t.given a b)
    given_off a b n k = rw (cut.others a b n k) (record {
      some = λ x r.
          let w = (given a b).some (untied x) r in (
            λ h.
                let u = w.0 h in record {
                  reading = u.reading;
                  forth =
                      each_tie ties new (λ t. Joins t a b → In r t.mask)
                      (λ e. absurd (n (sym e.0, sym e.1))) u.forth;
                  back =
                      each_tie ties new (λ t. Joins t b a → In (m.converse r) t.mask)
                      (λ e. absurd (k (sym e.1, sym e.0))) u.back;
                },
            λ u. w.1 (old u),
          );
      none = λ x. (given a b).none (λ (t, y, e). x (t, Memᴰ.append_left (new ∷ []) y, e));
    })
      where
        untied : Tied (adding ties new) a b → Tied ties a b
        untied (t, x, e) =
            elim (Memᴰ.append_cases ties x) [
              | inl y ↦ (t, y, e)
              | inr y ↦
                  let q = Memᴰ.eq_of_singleton y in
                  absurd (elim (rw q at e) [ inl f ↦ n (sym f.0, sym f.1) | inr f ↦ k (sym f.1, sym f.0) ])
            ]

    -- what is given with one tie more
    pub given_more : (a b : ℕ) → Given m (adding ties new) a b (cell t.given a b)
    given_more a b =
        elim (both? (ℕ_discrete a i) (ℕ_discrete b j)) [
          | yes x ↦ rw (x.0, x.1) given_there
          | no n ↦
              elim (both? (ℕ_discrete a j) (ℕ_discrete b i)) [
                | yes x ↦ rw (x.0, x.1) given_back
                | no k ↦ given_off a b n k
              ]
        ]
