-- Ties of instants and times that meet them.
use Rattle.std.proofs.Common.{◌≡◌, ℕ, ◌<◌, ◌≤◌, List, ℤ, pos, refl, ap, ◌∙◌, subst, arith}
use native.Mathlib.Decide.{ℕ_discrete}
use Rattle.algebra.specs.Masks.{has}
use Rattle.algebra.specs.Meaning.{Meaning, converse_of}
use Rattle.algebra.specs.Things.{Relation, Describes, In as Between}
use Rattle.algebra.specs.Instants.{instants, InstantsStand}
use Rattle.algebra.specs.InstantLaws.{instant_laws, instants_describe}
use Rattle.network.specs.Ties.{In, Tie, Proper, Different}
use Rattle.network.specs.Links.{Linked, tied, turned, filled}
use Rattle.network.specs.Candidates.{Net, Settled, Emptied}
use Rattle.network.specs.Arrangements.{Arrangement, Times, TimesMeet}
use Rattle.network.specs.Statements.{Complete, Consistent, Exact}
use Rattle.network.proofs.Sets.{none}
use Rattle.network.proofs.Links.{apart, both?, some?, linked?}
use Rattle.network.proofs.Nets.{sound, other_way}
use Rattle.network.proofs.Heights.{Steps, Kept, heights}
use Rattle.network.proofs.Gaps.{step, gap_small, gap_less, step_composed, step_even, step_back, stand}
use Rattle.network.proofs.Wide.{below, convex}

-- ---- where there are times no settled link is empty

-- things, one for each entry, make an arrangement, by the readings between them
arrangement : (m : Meaning) (Thing : Type 0) (Stand : ℕ → Relation Thing) (d : Describes m Thing Stand) (n : ℕ)
    (x : ℕ → Thing) → Arrangement m n (λ i j. (d.between (x i) (x j)).0)
arrangement m Thing Stand d n x = record {
  reading = λ i j a. d.reading _ (x i) (x j) (stands i j);
  both_ways = λ i j a. d.only _ _ (x j) (x i) (stands j i) (d.converse _ (x i) (x j) (stands i j));
  closed = λ i k j a b c.
      (d.composition _ _ _ (d.reading _ (x i) (x k) (stands i k)) (d.reading _ (x k) (x j) (stands k j))).1
      (x i, x k, x j, stands i k, stands k j, stands i j);
}
  where
    stands : (i j : ℕ) → Stand (d.between (x i) (x j)).0 (x i) (x j)
    stands i j = (d.between (x i) (x j)).1

pub consistent : Consistent
consistent n ties S time p s meets (i, j, x, e) =
    let d = instants_describe in
    let ρ : ℕ → ℕ → ℕ = λ i j. (d.between (time i) (time j)).0 in
    none (ρ i j) (S i j) e
    (sound instants n ties S ρ instant_laws p s (arrangement instants ℤ InstantsStand d n time)
    (λ t a.
    let w = meets t a in
    let x = time t.first in
    let y = time t.second in
    subst (λ r. In r t.mask) (d.only w.0 _ x y w.2 (d.between x y).1) w.1)
    i j x)

-- ---- where no settled link is empty there are times: numbers that keep the steps on all links

-- x if it is so, else 0
when : {A : Type 0} → Dec A → ℕ → ℕ
when (yes a) x = x
when (no a) x = 0

when_so : {A : Type 0} (d : Dec A) (x : ℕ) → A → when d x ≡ x
unfolding when
when_so (yes a) x b = refl
when_so (no a) x b = absurd (a b)

when_some : {A : Type 0} (d : Dec A) (x : ℕ) → 0 < when d x → A
unfolding when
when_some (yes a) x h = a
when_some (no a) x h = absurd (omega arith)

when_below : {A : Type 0} (d : Dec A) (x y : ℕ) → x ≤ y → when d x ≤ y
unfolding when
when_below (yes a) x y h = h
when_below (no a) x y h = omega arith

module _ (n : ℕ) (ties : List Tie) (S : Net) (p : Proper n ties) (s : Settled instants ties S) where
  -- the step on each link
  along : ℕ → ℕ → ℕ
  along i j = when (linked? n ties p i j) (step (S i j))

  is_step : {i j : ℕ} → Linked ties i j → along i j ≡ step (S i j)
  unfolding along
  is_step {i} {j} x = when_so (linked? n ties p i j) (step (S i j)) x

  on_link : {i j : ℕ} → 0 < along i j → Linked ties i j
  unfolding along
  on_link {i} {j} h = when_some (linked? n ties p i j) (step (S i j)) h

  small : {i j : ℕ} → Linked ties i j → S i j < 8
  small {i} {j} x = below (S i j) (λ r. s.fit.candidate.within i j r x)

  back_step : {i j : ℕ} → Linked ties i j → along j i ≡ step (converse_of instants (S i j))
  back_step x = is_step (turned x) ∙ ap step (other_way instant_laws s.fit.candidate x)

  steps : ¬ Emptied ties S → Steps along
  unfolding along step
  steps clear = record {
    small = λ i j. when_below (linked? n ties p i j) (step (S i j)) 2 (gap_small (has (S i j) 2) (has (S i j) 0));
    even = λ i k h g.
        let x = on_link h in
        rw (is_step x, back_step x)
        (step_even (S i k) (small x) (λ e. clear (i, k, x, e)) (rw (is_step x) at h) (rw (back_step x) at g));
    through = λ i k j hi hj d h g.
        let x = on_link h in
        let y = on_link g in
        let z = filled d hi hj x (turned y) in
        let c = step_composed (S i k) (S k j) (small x) (small y) (rw (is_step x) at h) (rw (is_step y) at g) in
        let f = s.fit.closed i k j in
        let e = gap_less (has (S i j) 2) (has (S i j) 0) _ _ (f 2 x y z) (f 0 x y z) in
        rw (is_step x, is_step y, is_step z) (omega (arith, c.0, e), omega (arith, c.1, e));
  }

  stands : ¬ Different ties → (t : ℕ → ℕ) → Kept along n t → {i j : ℕ} → Linked ties i j →
      Between InstantsStand (S i j) (pos (t i)) (pos (t j))
  stands plain t kept {i} {j} x =
      let a = apart p x in
      let b = apart p (turned x) in
      stand (S i j) (t i) (t j) (convex ties S plain s i j x)
      (rw (is_step x) at (kept i j a.first_in a.second_in a.differ))
      (rw (back_step x, step_back (S i j) (small x)) at (kept j i b.first_in b.second_in b.differ))

pub complete : Complete
complete n ties S p plain s clear =
    let (t, kept) = heights (along n ties S p s) (steps n ties S p s clear) n in
    (λ i. pos (t i), λ u a. let (r, h, v) = stands n ties S p s plain t kept (tied a) in (r, s.fit.under u a r h, v))

pub exact : Exact
exact n ties S p plain s = (λ e time meets. consistent n ties S time p s meets e, find)
  where
    find : ((time : Times) → ¬ TimesMeet ties time) → Emptied ties S
    find f =
        elim (some? n (λ i. (j : ℕ) × (j < n) × (Linked ties i j × (S i j ≡ 0)))
        (λ i hi. some? n (λ j. Linked ties i j × (S i j ≡ 0)) (λ j hj. both? (linked? n ties p i j) (ℕ_discrete (S i j) 0)))) [
          | yes (i, hi, (j, hj, w)) ↦ (i, j, w.0, w.1)
          | no g ↦
              let clear : ¬ Emptied ties S =
              λ (i, j, x, e). g (i, (apart p x).first_in, (j, (apart p x).second_in, (x, e))) in
              let (time, meets) = complete n ties S p plain s clear in
              absurd (f time meets)
        ]
