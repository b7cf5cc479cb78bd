-- Links that are added: one pair, the lower neighbours of an entry, and those of every entry.
use Rattle.std.proofs.Common.{◌≡◌, ℕ, ◌+◌, ◌<◌, ◌≤◌, true, false, ◌⊎◌, List, length, sym, refl, ◌∙◌, inl, inr, arith, length-set}
use Rattle.std.proofs.lemmas.Bool.{cases_eq, cases_Bool}
use Rattle.algebra.specs.Masks.{has}
use Rattle.algebra.specs.Members.{Lowest}
use Rattle.network.specs.Ties.{Tie}
use Rattle.network.specs.Links.{Linked, turned, filled}
use Rattle.programme.specs.Networks.{bit_at}
use Rattle.programme.specs.Steps.{Same, pending_at, Pended, Fresh, Grown, Each, Below, Fewer, Implied, FullFrom}
use Rattle.programme.specs.declared.linkage.Network.{Network}
use Rattle.programme.proofs.Bits.{left_within, left_not_lowest, lowest_or_left, lowest_or_not}
use Rattle.programme.proofs.Rows.{marked, mark_there, mark_more, mark_only, pending_back}

-- what is said of the pair of i and j, both ways, is said of any pair that is the same
pub same_by : (P : ℕ → ℕ → Type 0) (i j x y : ℕ) → P i j → P j i → Same i j x y → P x y
same_by P i j x y p q (inl a) = rw (a.0, a.1) p
same_by P i j x y p q (inr a) = rw (a.0, a.1) q

pub grown_none : (P : ℕ → ℕ → Type 0) (s : Network) → Grown P s s
grown_none P s = record {
  sets = refl;
  more = λ a b h. h;
  only = λ a b h. inl h;
  waits_more = λ a b h. h;
  waits_only = λ a b h. inl h;
}

-- first pairs P, then pairs Q, all of them pairs R one way or the other
pub grown_then : {P Q R : ℕ → ℕ → Type 0} (s t u : Network) → ((a b : ℕ) → P a b → R a b ⊎ R b a) →
    ((a b : ℕ) → Q a b → R a b ⊎ R b a) → Grown P s t → Grown Q t u → Grown R s u
grown_then {P} {Q} {R} s t u f g p q = record {
  sets = q.sets ∙ p.sets;
  more = λ a b h. q.more a b (p.more a b h);
  only = λ a b h.
      elim (q.only a b h) [
        | inr x ↦ inr (record { back = x.back; by = either g a b x.by; waits = x.waits })
        | inl k ↦ elim (p.only a b k) [
          | inl y ↦ inl y
          | inr x ↦ inr (record {
            back = q.more b a x.back;
            by = either f a b x.by;
            waits = q.waits_more a b x.waits;
          })
        ]
      ];
  waits_more = λ a b h. q.waits_more a b (p.waits_more a b h);
  waits_only = λ a b h.
      elim (q.waits_only a b h) [
        | inr x ↦ inr x
        | inl k ↦ elim (p.waits_only a b k) [ inl y ↦ inl y | inr y ↦ inr (q.more a b y) ]
      ];
}
  where
    either : {O : ℕ → ℕ → Type 0} → ((a b : ℕ) → O a b → R a b ⊎ R b a) → (a b : ℕ) → O a b ⊎ O b a → R a b ⊎ R b a
    either h a b (inl x) = h a b x
    either h a b (inr x) = elim (h b a x) [ inl y ↦ inr y | inr y ↦ inl y ]

-- ---- one pair

module _ (s m t : Network) (i j : ℕ) (hi : i < length s.links) (hj : j < length s.links)
    (e : m.links ≡ marked (marked s.links i j) j i) (f : m.sets ≡ s.sets) (g : m.pending ≡ s.pending)
    (p : Pended i j m t) where
  abbrev us : List ℕ
  us = marked s.links i j

  hu : j < length us
  hu = rw length-set hj

  links : t.links ≡ marked us j i
  links = p.links ∙ e

  pub pair_there : bit_at t.links i j ≡ true
  pair_there = rw links (mark_more us j i hu i j (mark_there s.links i j hi))

  back : bit_at t.links j i ≡ true
  back = rw links (mark_there us j i hu)

  fresh : (a b : ℕ) → Same i j a b → Fresh (Same i j) t a b
  fresh a b q = record {
    back = same_by (λ x y. bit_at t.links y x ≡ true) i j a b back pair_there q;
    by = inl q;
    waits = same_by (λ x y. pending_at t x y ≡ true) i j a b p.there (pending_back t i j p.there) q;
  }

  still : (a b : ℕ) → pending_at m a b ≡ pending_at s a b
  unfolding pending_at
  still a b = rw g refl

  pub grown_pair : Grown (Same i j) s t
  grown_pair = record {
    sets = p.sets ∙ f;
    more = λ a b h. rw links (mark_more us j i hu a b (mark_more s.links i j hi a b h));
    only = λ a b h.
        elim (mark_only us j i hu a b (rw links at h)) [
          | inr q ↦ inr (fresh a b (inr q))
          | inl k ↦ elim (mark_only s.links i j hi a b k) [ inl y ↦ inl y | inr q ↦ inr (fresh a b (inl q)) ]
        ];
    waits_more = λ a b h. p.more a b (still a b ∙ h);
    waits_only = λ a b h.
        elim (p.only a b h) [
          | inl k ↦ inl (sym (still a b) ∙ k)
          | inr q ↦ inr (same_by (λ x y. bit_at t.links x y ≡ true) i j a b pair_there back q)
        ];
  }

-- ---- the lower neighbours of an entry

-- rest has those of k that are still to be linked with higher ones, and i is the lowest of them
module _ (s t u : Network) (k i rest next missing : ℕ) (low : Lowest rest i next)
    (near : (x : ℕ) → has rest x ≡ true → (x < k) × (bit_at s.links k x ≡ true)) (g : Grown (Below s k) s t)
    (done : (a b : ℕ) → Below s k a b → (has rest a ≡ false) ⊎ (has rest b ≡ false) → bit_at t.links a b ≡ true)
    (part : (x : ℕ) → has missing x ≡ true → has next x ≡ true)
    (whole : (x : ℕ) → has next x ≡ true → bit_at t.links i x ≡ false → has missing x ≡ true)
    (p : Grown (Each i missing) t u) (all : (x : ℕ) → has missing x ≡ true → bit_at u.links i x ≡ true) where
  pub row_grown : Grown (Below s k) s u
  row_grown = grown_then s t u (λ a b h. inl h) (λ a b h. inl (one a b h)) g p
    where
      one : (a b : ℕ) → Each i missing a b → Below s k a b
      one a b (e, h) =
          let n = part b h in
          let r = left_within low b n in
          let l = low.least b r in
          let d = left_not_lowest low b n in
          rw e (record {
            order = omega arith;
            low = (near b r).0;
            first = (near i low.there).1;
            second = (near b r).1;
          })

  from_i : (b : ℕ) → Below s k i b → bit_at u.links i b ≡ true
  from_i b h =
      let o = h.order in
      elim (cases_Bool (has rest b)) [
        | inr n ↦ p.more i b (done i b h (inr n))
        | inl r ↦ elim (lowest_or_left low b r) [
          | inl e ↦ absurd (omega arith)
          | inr x ↦ elim (cases_Bool (bit_at t.links i b)) [
            | inl y ↦ p.more i b y
            | inr n ↦ all b (whole b x n)
          ]
        ]
      ]

  to_i : (a : ℕ) → Below s k a i → bit_at u.links a i ≡ true
  to_i a h =
      let o = h.order in
      elim (cases_Bool (has rest a)) [
        | inl r ↦ let l = low.least a r in absurd (omega arith)
        | inr n ↦ p.more a i (done a i h (inl n))
      ]

  pub row_done : (a b : ℕ) → Below s k a b → (has next a ≡ false) ⊎ (has next b ≡ false) → bit_at u.links a b ≡ true
  row_done a b h (inl x) =
      elim (lowest_or_not low a x) [
        | inl e ↦ rw e (from_i b (rw e at h))
        | inr n ↦ p.more a b (done a b h (inl n))
      ]
  row_done a b h (inr x) =
      elim (lowest_or_not low b x) [
        | inl e ↦ rw e (to_i a (rw e at h))
        | inr n ↦ p.more a b (done a b h (inr n))
      ]

-- ---- every entry, from the greatest down

-- links that ties have lead to links that they have
pub fewer_still : {P : ℕ → ℕ → Type 0} (s t : Network) (ties : List Tie) → ((a b : ℕ) → P a b → Linked ties a b) →
    Grown P s t → Fewer s ties → Fewer t ties
fewer_still s t ties f p h a b k =
    elim (p.only a b k) [
      | inl y ↦ h a b y
      | inr x ↦ elim x.by [ inl y ↦ f a b y | inr y ↦ turned (f b a y) ]
    ]

below_implied : (s t : Network) (k : ℕ) → Grown (Implied s) s t → (a b : ℕ) → Below t k a b → Implied s a b
below_implied s t k g a b h ties f =
    let w = fewer_still s t ties (λ x y p. p ties f) g f in
    let o = h.order in
    let l = h.low in
    filled (λ e. omega arith) (omega arith) (omega arith) (turned (w k a h.first)) (turned (w k b h.second))

pub full_at : (n k : ℕ) (w : Network) → n ≤ k → FullFrom n w → FullFrom k w
full_at n k w l f h a b g = f h a b (omega arith)

module _ (s t u : Network) (k : ℕ) (g : Grown (Implied s) s t) (full : FullFrom (k + 1) t) (p : Grown (Below t k) t u)
    (all : (a b : ℕ) → Below t k a b → bit_at u.links a b ≡ true) where
  pub filled_more : Grown (Implied s) s u
  filled_more = grown_then s t u (λ a b h. inl h) (λ a b h. inl (below_implied s t k g a b h)) g p

  -- the rows from k on are as they were
  above : (h a : ℕ) → k ≤ h → bit_at u.links h a ≡ true → bit_at t.links h a ≡ true
  above h a l x =
      elim (p.only h a x) [
        | inl y ↦ y
        | inr y ↦ elim y.by [
          | inl z ↦ let c = z.order in let d = z.low in absurd (omega arith)
          | inr z ↦ let c = z.order in let d = z.low in absurd (omega arith)
        ]
      ]

  pub full_more : FullFrom k u
  full_more h a b l c q =
      let w : Below t h a b = record {
        order = q.order;
        low = q.low;
        first = above h a l q.first;
        second = above h b l q.second;
      } in
      elim (cases_eq h k) [
        | inl e ↦ all a b (rw e at w)
        | inr n ↦ p.more a b (full h a b (omega arith) c w)
      ]
