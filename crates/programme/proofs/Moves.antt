-- Narrowing: what a cut keeps, how such steps follow one another, and the sides of a triangle.
use Rattle.std.proofs.Common.{◌≡◌, ℕ, ◌<◌, true, false, ◌≢◌, ◌↔◌, List, sym, refl, ◌∙◌, subst, inl, inr, arith}
use lib.Bits.{bit_and, and_le_l}
use Rattle.std.proofs.lemmas.Bool.{cases_Bool, both_ways}
use Rattle.algebra.specs.Masks.{has}
use Rattle.algebra.specs.Members.{Lowest}
use Rattle.algebra.specs.Meaning.{Meaning, Lawful, converse_of, composition_of}
use Rattle.algebra.specs.Bits.{has_cut, cut_has}
use Rattle.network.specs.Ties.{Tie}
use Rattle.network.specs.Links.{Linked, turned}
use Rattle.network.specs.Closing.{Cut}
use Rattle.network.proofs.Sets.{equal, converse_to, converse_from}
use Rattle.network.proofs.Links.{apart}
use Rattle.network.proofs.Closing.{narrowing}
use Rattle.programme.specs.Networks.{bit_at, cell, net_of}
use Rattle.programme.specs.Steps.{Same, pending_at, weight, Trimmed, Within, Shut, Covered, Around}
use Rattle.programme.specs.Steps.{Midway, Triangle, Link, Move, Met}
use Rattle.programme.specs.declared.linkage.Network.{Network}
use Rattle.programme.proofs.Bits.{lowest_or_not}
use Rattle.programme.proofs.Rows.{pending_back}
use Rattle.programme.proofs.Growth.{same_by}

-- ---- pending pairs

pub pending_same : (w : Network) (i j x y : ℕ) → pending_at w i j ≡ true → Same i j x y → pending_at w x y ≡ true
pending_same w i j x y h = same_by (λ a b. pending_at w a b ≡ true) i j x y h (pending_back w i j h)

pub not_pending : (s t : Network) (x y a b : ℕ) → (pending_at s x y ≡ true → pending_at t a b ≡ true) →
    pending_at t a b ≡ false → pending_at s x y ≡ false
not_pending s t x y a b f h =
    elim (cases_Bool (pending_at s x y)) [ inl e ↦ absurd (both_ways (pending_at t a b) h (f e)) | inr e ↦ e ]

pub idle_back : (w : Network) (x y : ℕ) → pending_at w x y ≡ false → pending_at w y x ≡ false
idle_back w x y = not_pending w w y x x y (pending_back w y x)

-- ---- steps one after another

pub move_none : (m : Meaning) (H : List Tie → Type 0) (s : Network) → Move m H s s
move_none m H s = record {
  links = refl;
  waits_more = λ x y h. h;
  covered = λ i k j h. h;
  less = inl refl;
  holds = λ ties h w. w;
}

pub move_then : {m : Meaning} {H G : List Tie → Type 0} (s t u : Network) →
    ((ties : List Tie) → H ties → Midway m ties s → G ties) → Move m H s t → Move m G t u → Move m H s u
move_then s t u f p q = record {
  links = q.links ∙ p.links;
  waits_more = λ x y h. q.waits_more x y (p.waits_more x y h);
  covered = λ i k j h. q.covered i k j (p.covered i k j h);
  less = elim q.less [
    | inl e ↦ elim p.less [ inl d ↦ inl (e ∙ d) | inr l ↦ inr (subst (λ x. weight x < weight s) (sym e) l) ]
    | inr l ↦ elim p.less [ inl d ↦ inr (subst (λ x. weight u < weight x) d l) | inr k ↦ inr (omega arith) ]
  ];
  holds = λ ties h w. q.holds ties (f ties h w) (p.holds ties h w);
}

-- ---- a cut

module _ (m : Meaning) (s t : Network) (i j there back : ℕ) (p : Trimmed i j there back s t) where
  same_cell : (x y : ℕ) → pending_at t x y ≡ false → cell t.sets x y ≡ cell s.sets x y
  same_cell x y h = p.off x y (λ q. both_ways (pending_at t x y) h (pending_same t i j x y p.waits q))

  -- what changed is pending, so that a triangle with no side pending is as it was
  pub trimmed_covered : (a b c : ℕ) → Covered m s a b c → Covered m t a b c
  trimmed_covered a b c w f g h =
      rw (same_cell a b f, same_cell b c g, same_cell a c h)
      (w (not_pending s t a b a b (p.waits_more a b) f) (not_pending s t b c b c (p.waits_more b c) g)
      (not_pending s t a c a c (p.waits_more a c) h))

-- cut by what leads round by k
module _ (m : Meaning) (law : Lawful m) (s t : Network) (i k j new back : ℕ)
    (e : new ≡ bit_and (cell s.sets i j) (composition_of m (cell s.sets i k) (cell s.sets k j)))
    (f : back ≡ converse_of m new) (n : new ≢ cell s.sets i j) (p : Trimmed i j new back s t) where
  abbrev old : ℕ
  old = cell s.sets i j

  abbrev round : ℕ
  round = composition_of m (cell s.sets i k) (cell s.sets k j)

  module _ (ties : List Tie) (h : Triangle i k j ties) (w : Midway m ties s) where
    there_same : bit_and old new ≡ bit_and old round
    there_same =
        equal (bit_and old new) (bit_and old round)
        (λ r x. rw e at (has_cut old new r x).1)
        (λ r x. cut_has old new r (has_cut old round r x).0 (rw e x))

    back_same : bit_and (cell s.sets j i) back ≡ bit_and (cell s.sets j i) (converse_of m round)
    back_same =
        equal (bit_and other back) (bit_and other (converse_of m round))
        (λ r x.
        let y = has_cut other back r x in
        let z = converse_to m law new r (rw f at y.1) in
        cut_has other (converse_of m round) r y.0
        (converse_from m law round r z.0 (has_cut old round (m.converse r) (rw e at z.1)).1))
        (λ r x.
        let y = has_cut other (converse_of m round) r x in
        let z = converse_to m law round r y.1 in
        let o = w.holding.candidate.both_ways j i r (turned h.ij) y.0 in
        cut_has other back r y.0
        (rw f (converse_from m law new r z.0 (rw e (cut_has old round (m.converse r) o z.1)))))
      where
        other : ℕ
        other = cell s.sets j i

    cut : Cut m ties i j round (net_of s) (net_of t)
    cut =
        let d = (apart w.proper h.ij).differ in
        record {
          there = p.on d ∙ there_same;
          back = p.across d ∙ back_same;
          elsewhere = λ a b l x y. p.off a b (λ q. elim q [ inl z ↦ x z | inr z ↦ y z ]);
        }

    narrowed_midway : Midway m ties t
    narrowed_midway = record {
      proper = w.proper;
      linked = λ a b. subst (λ rows. (bit_at rows a b ≡ true) ↔ Linked ties a b) (sym p.links) (w.linked a b);
      free = λ a b ha hb x.
          let y : bit_at s.links a b ≡ false = rw p.links at x in
          p.off a b (λ q. both_ways (bit_at s.links a b) y
          ((w.linked a b).1 (same_by (Linked ties) i j a b h.ij (turned h.ij) q)))
          ∙ w.free a b ha hb y;
      holding = narrowing m ties i k j (net_of s) (net_of t) law h.ik h.kj h.ij cut w.holding;
      waits = λ a b x.
          elim (p.waits_only a b x) [
            | inl y ↦ w.waits a b y
            | inr q ↦ same_by (Linked ties) i j a b h.ij (turned h.ij) q
          ];
    }

  pub narrowed : Move m (Triangle i k j) s t
  narrowed = record {
    links = p.links;
    waits_more = p.waits_more;
    covered = trimmed_covered m s t i j new back p;
    less = inr (p.lighter (let l = and_le_l old round in omega arith));
    holds = narrowed_midway;
  }

pub shut_by : (old new round : ℕ) → new ≡ bit_and old round → new ≡ old → Within old round
shut_by old new round e f r h = (has_cut old round r (rw (sym e ∙ f) h)).1

-- ---- the three sides of a triangle

still : (m : Meaning) (i k j : ℕ) (s t u : Network) → ((x y : ℕ) → pending_at t x y ≡ true → pending_at u x y ≡ true) →
    Met m i k j s t → pending_at u i j ≡ false → (t ≡ s) × Shut m s i k j
still m i k j s t u f (inl x) h = absurd (both_ways (pending_at u i j) h (f i j x))
still m i k j s t u f (inr x) h = x

-- narrowed in turn
module _ (m : Meaning) (s t u v : Network) (i k j : ℕ) (a : Met m i k j s t) (b : Met m i j k t u) (c : Met m k i j u v)
    (o : Move m (Triangle i k j) s t) (p : Move m (Triangle i j k) t u) (q : Move m (Triangle k i j) u v) where
  pub sides_moved : Move m (Triangle i k j) s v
  sides_moved =
      move_then s u v (λ ties h w. record { ik = turned h.ik; kj = h.ij; ij = h.kj })
      (move_then s t u (λ ties h w. record { ik = h.ij; kj = turned h.kj; ij = h.ik }) o p) q

  first : pending_at v i j ≡ false → (t ≡ s) × Shut m s i k j
  first = still m i k j s t v (λ x y h. q.waits_more x y (p.waits_more x y h)) a

  second : pending_at v i k ≡ false → (u ≡ t) × Shut m t i j k
  second = still m i j k t u v (λ x y h. q.waits_more x y h) b

  third : pending_at v k j ≡ false → (v ≡ u) × Shut m u k i j
  third = still m k i j u v v (λ x y h. h) c

  pub sides_met : Around m v i k j
  sides_met = record {
    ikj = λ x y z. subst (λ w. Shut m w i k j) (sym ((third y).0 ∙ (second x).0 ∙ (first z).0)) (first z).1;
    ijk = λ x y z. subst (λ w. Shut m w i j k) (sym ((third (idle_back v j k y)).0 ∙ (second z).0)) (second z).1;
    kij = λ x y z. subst (λ w. Shut m w k i j) (sym (third z).0) (third z).1;
  }

-- ---- the triangles on a link, one after another

module _ (m : Meaning) (s t u : Network) (i k j : ℕ) (p : Move m (Link i j) s t) (q : Move m (Triangle i k j) t u) where
  pub link_moved : bit_at s.links i k ≡ true → bit_at s.links j k ≡ true → Move m (Link i j) s u
  link_moved a b =
      move_then s t u (λ ties h w. record { ik = (w.linked i k).0 a; kj = turned ((w.linked j k).0 b); ij = h }) p q

  around_still : (x : ℕ) → Around m t i x j → Around m u i x j
  around_still x w = record {
    ikj = q.covered i x j w.ikj;
    ijk = q.covered i j x w.ijk;
    kij = q.covered x i j w.kij;
  }

  -- k was the lowest of those that were left
  pub link_met : (rest next : ℕ) → Lowest rest k next → Around m u i k j →
      ((x : ℕ) → x < 48 → bit_at s.links i x ≡ true → bit_at s.links j x ≡ true → has rest x ≡ false → Around m t i x j) →
      (x : ℕ) → x < 48 → bit_at s.links i x ≡ true → bit_at s.links j x ≡ true → has next x ≡ false → Around m u i x j
  link_met rest next low w f x l a b n = elim (lowest_or_not low x n) [
    | inl e ↦ rw e w
    | inr o ↦ around_still x (f x l a b o)
  ]
