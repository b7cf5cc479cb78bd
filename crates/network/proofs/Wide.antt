-- Settled sets of instants are convex: '=' is in each that has '<' and '>', unless some pair is given exactly these two.
use Rattle.std.proofs.Common.{◌≡◌, ℕ, ◌<◌, true, false, cond, ◌&&◌, ◌⊎◌, List, sym, refl, ◌∙◌, inl, inr, arith, lit<}
use lib.Bits.{bit_and, bit_or, and_le_r}
use Rattle.std.proofs.lemmas.Bool.{cases_Bool, or_cases, or_left, or_right, false≢true}
use Rattle.algebra.specs.Masks.{has, union}
use Rattle.algebra.specs.Meaning.{Reading, compositions, composition_of}
use Rattle.algebra.specs.Instants.{instants}
use Rattle.algebra.specs.Bits.{has_or, has_below, has_cut, cut_has}
use Rattle.algebra.specs.Tests.{all, all_at}
use Rattle.algebra.specs.InstantLaws.{instant_laws}
use Rattle.network.specs.Ties.{In, Tie, Among, Allowed, Given, Different}
use Rattle.network.specs.Links.{Linked, tied}
use Rattle.network.specs.Candidates.{Net, Under, ClosedCandidate, Settled}
use Rattle.network.proofs.Sets.{equal, one_in, one_is, three, within, within_in}

-- what holds of '=', '<' and '>' holds of each reading
each : (P : ℕ → Type 0) → P 0 → P 1 → P 2 → (r : ℕ) → Reading instants r → P r
each P p q s r h = three P p q s r (has_below 7 3 r (lit< tt) h)

-- a set of readings is below 8
pub below : (s : ℕ) → ((r : ℕ) → In r s → Reading instants r) → s < 8
below s f =
    let e : s ≡ bit_and s 7 = equal s (bit_and s 7) (λ r h. cut_has s 7 r h (f r h)) (λ r h. (has_cut s 7 r h).0) in
    omega (arith, and_le_r s 7)

-- s with '=' added if it has '<' and '>'
wide : ℕ → ℕ
wide s = cond (has s 1 && has s 2) (bit_or s 1) s

wide_in : (s r : ℕ) → In r s → In r (wide s)
unfolding wide
wide_in s r h =
    elim (has s 1 && has s 2) as (λ b. In r (cond b (bit_or s 1) s)) [ true ↦ has_or s 1 r ∙ or_left _ (has 1 r) h | false ↦ h ]

wide_zero : (s : ℕ) → In 1 s → In 2 s → In 0 (wide s)
unfolding wide
wide_zero s p q = rw (p, q) (has_or s 1 0 ∙ or_right (has s 0) _ (one_in 0))

wide_out : (s r : ℕ) → In r (wide s) → In r s ⊎ ((r ≡ 0) × In 1 s × In 2 s)
unfolding wide
wide_out s r h =
    elim (cases_Bool (has s 1)) [
      | inr p ↦ inl (rw p at h)
      | inl p ↦ elim (cases_Bool (has s 2)) [
        | inr q ↦ inl (rw (p, q) at h)
        | inl q ↦ elim (or_cases (has s r) (has 1 r) (sym (has_or s 1 r) ∙ (rw (p, q) at h))) [
          | inl k ↦ inl k
          | inr k ↦ inr (one_is 0 r k, p, q)
        ]
      ]
    ]

wide_test : all 8 (λ s. all 8 (λ t. within (wide (composition_of instants s t)) (composition_of instants (wide s) (wide t)))) ≡ true
unfolding all within wide has union compositions
wide_test = refl

-- widening goes through compositions
wide_composed : (s t : ℕ) → s < 8 → t < 8 → (r : ℕ) → In r (wide (composition_of instants s t)) →
    In r (composition_of instants (wide s) (wide t))
wide_composed s t hs ht r h =
    within_in _ (composition_of instants (wide s) (wide t)) r (all_at 8 _ (all_at 8 _ wide_test s hs) t ht) h

module _ (ties : List Tie) (S : Net) (plain : ¬ Different ties) (s : Settled instants ties S) where
  -- a reading of a settled link is allowed by the ties
  allowed : (i j r : ℕ) → Linked ties i j → In r (S i j) → Allowed instants ties i j r
  allowed i j r x h = record {
    reading = s.fit.candidate.within i j r x h;
    forth = λ t a e. s.fit.under t a r (rw (e.0, e.1) h);
    back = λ t a e. s.fit.under t a _ (rw (e.0, e.1) (s.fit.candidate.both_ways i j r x h));
  }

  -- the given set of a tie without '=' would be exactly '<' and '>'
  two : (t : Tie) → Among t ties → In 1 (S t.first t.second) → In 2 (S t.first t.second) → has t.mask 0 ≡ false →
      Given instants ties t.first t.second 6
  unfolding has
  two t a p q n = record {
    some = λ w r. (
      λ h. each (λ r. has 6 r ≡ true → Allowed instants ties t.first t.second r)
          (λ k. absurd (false≢true k)) (λ k. allowed _ _ 1 (tied a) p) (λ k. allowed _ _ 2 (tied a) q) r
          (has_cut 7 6 r h).0 h,
      λ h. each (λ r. Allowed instants ties t.first t.second r → has 6 r ≡ true)
          (λ k. absurd (false≢true (sym n ∙ k.forth t a (refl, refl)))) (λ k. refl) (λ k. refl) r h.reading h,
    );
    none = λ w. absurd (w (t, a, inl (refl, refl)));
  }

  wide_under : Under ties (λ i j. wide (S i j))
  wide_under t a r h =
      elim (wide_out (S t.first t.second) r h) [
        | inl k ↦ s.fit.under t a r k
        | inr (e, p, q) ↦ rw e (elim (cases_Bool (has t.mask 0)) [
          | inl k ↦ k
          | inr n ↦ absurd (plain (t.first, t.second, two t a p q n))
        ])
      ]

  widened : ClosedCandidate instants ties (λ i j. wide (S i j))
  widened = record {
    candidate = record {
      within = λ i j r x h. elim (wide_out (S i j) r h) [
        | inl k ↦ s.fit.candidate.within i j r x k
        | inr (e, p, q) ↦ rw e instant_laws.identity_in
      ];
      both_ways = λ i j r x h. elim (wide_out (S i j) r h) [
        | inl k ↦ wide_in (S j i) _ (s.fit.candidate.both_ways i j r x k)
        | inr (e, p, q) ↦
            rw e (wide_zero (S j i) (s.fit.candidate.both_ways i j 2 x q) (s.fit.candidate.both_ways i j 1 x p))
      ];
    };
    under = wide_under;
    closed = λ i k j r x y z h.
        let f = s.fit.closed i k j in
        let u = s.fit.candidate.within in
        wide_composed (S i k) (S k j) (below (S i k) (λ a. u i k a x)) (below (S k j) (λ b. u k j b y)) r
        (elim (wide_out (S i j) r h) [
          | inl v ↦ wide_in _ r (f r x y z v)
          | inr (e, p, q) ↦ rw e (wide_zero _ (f 1 x y z p) (f 2 x y z q))
        ]);
  }

  pub convex : (i j : ℕ) → Linked ties i j → In 1 (S i j) → In 2 (S i j) → In 0 (S i j)
  convex i j x p q = s.greatest (λ i j. wide (S i j)) widened i j 0 x (wide_zero (S i j) p q)
