-- Numbers for entries, taken one after another: each is put as low as the earlier ones let it be.
use Rattle.std.proofs.Common.{◌≡◌, ℕ, zero, suc, ◌+◌, ◌-◌, ◌*◌, ◌<◌, ◌≤◌, max, cond, eqb, ◌≢◌, refl, inl, inr, arith}
use native.Mathlib.Decide.{ℕ_discrete}
use Rattle.std.proofs.lemmas.Bool.{cases_eq, eq-eqb, ne_eqb}

-- the greatest of b 0, .., b (k - 1)
top : ℕ → (ℕ → ℕ) → ℕ
top zero b = 0
top (suc k) b = max (top k b) (b k)

top_above : (k : ℕ) (b : ℕ → ℕ) (i : ℕ) → i < k → b i ≤ top k b
unfolding top
top_above zero b i h = absurd (omega arith)
top_above (suc k) b i h =
    elim (cases_eq i k) [ inl e ↦ rw e (omega arith) | inr d ↦ let x = top_above k b i (omega arith) in omega arith ]

top_below : (k : ℕ) (b : ℕ → ℕ) (x : ℕ) → ((i : ℕ) → i < k → b i ≤ x) → top k b ≤ x
unfolding top
top_below zero b x h = omega arith
top_below (suc k) b x h =
    let y = top_below k b x (λ i l. h i (omega arith)) in
    let z = h k (omega arith) in
    omega arith

-- the least number that is the step w above an entry at t, once that has moved up; step 0 bounds nothing
low : ℕ → ℕ → ℕ
low zero t = 0
low (suc w) t = 2 * t + suc w

low_some : (w t : ℕ) → 0 < w → low w t ≡ 2 * t + w
unfolding low
low_some zero t h = absurd (omega arith)
low_some (suc w) t h = refl

low_below : (w t x : ℕ) → (0 < w → 2 * t + w ≤ x) → low w t ≤ x
unfolding low
low_below zero t x f = omega arith
low_below (suc w) t x f = f (omega arith)

-- each entry moved up, to leave room between any two, and k put at h
raised : ℕ → ℕ → (ℕ → ℕ) → ℕ → ℕ
raised k h t i = cond (eqb i k) h (2 * t i + 1)

raised_at : (k h : ℕ) (t : ℕ → ℕ) (i : ℕ) → i ≡ k → raised k h t i ≡ h
unfolding raised
raised_at k h t i e = rw (eq-eqb i k e)

raised_off : (k h : ℕ) (t : ℕ → ℕ) (i : ℕ) → i ≢ k → raised k h t i ≡ 2 * t i + 1
unfolding raised
raised_off k h t i d = rw (ne_eqb i k d)

-- the entries below k keep the steps: where w i j is 1, i is at most at j; where it is 2, i is below j
abbrev pub Kept : (ℕ → ℕ → ℕ) → ℕ → (ℕ → ℕ) → Type 0
Kept w k t = (i j : ℕ) → i < k → j < k → i ≢ j → 0 < w i j → t i + w i j ≤ t j + 1

-- steps there and back leave the two at one number, and each of two steps by way of a later entry is within the one between
pub record Steps (w : ℕ → ℕ → ℕ) : Type 0 where
  pub small : (i j : ℕ) → w i j ≤ 2
  pub even : (i k : ℕ) → 0 < w i k → 0 < w k i → w i k + w k i ≤ 2
  pub through : (i k j : ℕ) → i < k → j < k → i ≢ j → 0 < w i k → 0 < w k j → (w i k ≤ w i j) × (w k j ≤ w i j)

module _ (w : ℕ → ℕ → ℕ) (s : Steps w) where
  -- where k goes, and that this is high enough for every step to k and low enough for every step from k
  module _ (k : ℕ) (t : ℕ → ℕ) (o : Kept w k t) where
    here : ℕ
    here = top k (λ i. low (w i k) (t i))

    over : (i : ℕ) → i < k → 0 < w i k → 2 * t i + w i k ≤ here
    unfolding here
    over i h p = let x = top_above k (λ i. low (w i k) (t i)) i h in let e = low_some (w i k) (t i) p in omega arith

    both : (i j : ℕ) → i < k → j < k → 0 < w i k → 0 < w k j → 2 * t i + w i k + w k j ≤ 2 * t j + 2
    both i j hi hj p q =
        elim (cases_eq i j) [
          | inl e ↦ rw e (omega (arith, s.even j k (rw e at p) q))
          | inr d ↦ let x = s.through i k j hi hj d p q in omega (arith, x.0, x.1, o i j hi hj d (omega (arith, x.0)))
        ]

    under : (j : ℕ) → j < k → 0 < w k j → here + w k j ≤ 2 * t j + 2
    unfolding here
    under j h q =
        let x = s.small k j in
        let y : here ≤ 2 * t j + 2 - w k j =
        top_below k _ _ (λ i hi. low_below (w i k) (t i) _ (λ p. omega (arith, both i j hi h p q))) in
        omega arith

    onward : Kept w (suc k) (raised k here t)
    onward i j hi hj d p = go (ℕ_discrete i k) (ℕ_discrete j k)
      where
        go : Dec (i ≡ k) → Dec (j ≡ k) → raised k here t i + w i j ≤ raised k here t j + 1
        go (yes e) (yes f) = absurd (omega arith)
        go (yes e) (no f) =
            rw (raised_at k here t i e, raised_off k here t j f, e) (omega (arith, under j (omega arith) (rw e at p)))
        go (no e) (yes f) =
            rw (raised_off k here t i e, raised_at k here t j f, f) (omega (arith, over i (omega arith) (rw f at p)))
        go (no e) (no f) =
            rw (raised_off k here t i e, raised_off k here t j f) (omega (arith, o i j (omega arith) (omega arith) d p))

  pub heights : (k : ℕ) → (t : ℕ → ℕ) × Kept w k t
  heights zero = (λ i. 0, λ i j h. absurd (omega arith))
  heights (suc k) = let (t, o) = heights k in (raised k (here k t o) t, onward k t o)
