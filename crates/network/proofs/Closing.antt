-- Closing step by step: it begins with no ties, starts anew with each tie, and each step keeps what it must.
use Rattle.std.proofs.Common.{◌≡◌, ℕ, List, [], ◌∷◌, sym, refl, subst, inl, inr}
use mathlib.Core.List.Memᴰ
use native.Mathlib.Decide.{ℕ_discrete}
use Rattle.algebra.specs.Masks.{has}
use Rattle.algebra.specs.Meaning.{Meaning, Lawful, Reading, converse_of, composition_of}
use Rattle.algebra.specs.Bits.{has_cut, cut_has}
use Rattle.network.specs.Ties.{In, Tie}
use Rattle.network.specs.Links.{Linked, tied, turned}
use Rattle.network.specs.Candidates.{Net, Inside, Candidate, Under, Above, Settled, Follows}
use Rattle.network.specs.Closing.{adding, Cut, Started, Holding}
use Rattle.network.specs.Statements.{Begins, Starts, Narrowing, Finishing}
use Rattle.network.proofs.Sets.{either_way, converse_to, converse_from, converse_turn, composition_more}
use Rattle.network.proofs.Links.{both?, no_links}
use Rattle.network.proofs.Nets.{fits}

pub begins : Begins
begins m S = record {
  fit = record {
    candidate = record { within = λ i j r x. absurd (no_links x); both_ways = λ i j r x. absurd (no_links x) };
    under = λ t a. absurd (Memᴰ.not-nil a);
    closed = λ i k j r x. absurd (no_links x);
  };
  greatest = λ D f i j r x. absurd (no_links x);
}

pub finishing : Finishing
finishing m ties C h c =
    record { fit = record { candidate = h.candidate; under = h.under; closed = c }; greatest = h.above }

-- ---- a cut keeps what it must

-- where the pair a b stands to i j
data Place (i j a b : ℕ) : Type 0 where
  at : a ≡ i → b ≡ j → Place i j a b
  across : a ≡ j → b ≡ i → Place i j a b
  off : ¬ ((a ≡ i) × (b ≡ j)) → ¬ ((a ≡ j) × (b ≡ i)) → Place i j a b

place : (i j a b : ℕ) → Place i j a b
place i j a b =
    elim (both? (ℕ_discrete a i) (ℕ_discrete b j)) [
      | yes x ↦ at x.0 x.1
      | no x ↦ elim (both? (ℕ_discrete a j) (ℕ_discrete b i)) [ yes y ↦ across y.0 y.1 | no y ↦ off x y ]
    ]

module _ (m : Meaning) (l : Lawful m) (ties : List Tie) (i j s : ℕ) (C D : Net)
    (c : Candidate m ties C) (w : Cut m ties i j s C D) where
  cut_inside : Inside ties D C
  cut_inside a b r x h = go (place i j a b)
    where
      go : Place i j a b → In r (C a b)
      go (at p q) = rw (p, q) (has_cut (C i j) s r (rw (p, q, w.there) at h)).0
      go (across p q) = rw (p, q) (has_cut (C j i) (converse_of m s) r (rw (p, q, w.back) at h)).0
      go (off p q) = rw (w.elsewhere a b x p q) at h

  -- what lies within C, both ways, and from i to j within s, lies within D
  cut_above : (E : Net) → Candidate m ties E → Inside ties E C → ((r : ℕ) → In r (E i j) → In r s) → Inside ties E D
  cut_above E e f g a b r x h = go (place i j a b)
    where
      go : Place i j a b → In r (D a b)
      go (at p q) = rw (p, q, w.there) (cut_has (C i j) s r (rw (p, q) at (f a b r x h)) (g r (rw (p, q) at h)))
      go (across p q) =
          rw (p, q, w.back)
          (cut_has (C j i) (converse_of m s) r (rw (p, q) at (f a b r x h))
          (converse_from m l s r (e.within a b r x h) (g (m.converse r) (rw (p, q) at (e.both_ways a b r x h)))))
      go (off p q) = rw (w.elsewhere a b x p q) (f a b r x h)

  cut_candidate : Candidate m ties D
  cut_candidate = record {
    within = λ a b r x h. c.within a b r x (cut_inside a b r x h);
    both_ways = λ a b r x h. turn a b r x h (place i j a b);
  }
    where
      turn : (a b r : ℕ) → Linked ties a b → In r (D a b) → Place i j a b → In (m.converse r) (D b a)
      turn a b r x h k =
          let u = c.within a b r x (cut_inside a b r x h) in
          let v = c.both_ways a b r x (cut_inside a b r x h) in
          elim k [
            | at p q ↦ rw (p, q, w.back) (cut_has (C j i) (converse_of m s) (m.converse r) (rw (p, q) at v)
                (converse_turn m l s r u (has_cut (C i j) s r (rw (p, q, w.there) at h)).1))
            | across p q ↦ rw (p, q, w.there) (cut_has (C i j) s (m.converse r) (rw (p, q) at v)
                (converse_to m l s r (has_cut (C j i) (converse_of m s) r (rw (p, q, w.back) at h)).1).1)
            | off p q ↦ rw (w.elsewhere b a (turned x) (λ z. q (z.1, z.0)) (λ z. p (z.1, z.0))) v
          ]

pub narrowing : Narrowing
narrowing m ties i k j C D l x y z w h =
    let s = composition_of m (C i k) (C k j) in
    let inside = cut_inside m l ties i j s C D h.candidate w in
    record {
      candidate = cut_candidate m l ties i j s C D h.candidate w;
      under = λ t a r e. h.under t a r (inside t.first t.second r (tied a) e);
      above = λ E f.
          cut_above m l ties i j s C D h.candidate w E f.candidate (h.above E f)
          (λ r e. composition_more m l (E i k) (E k j) (C i k) (C k j) r
          (λ b. h.above E f i k b x) (λ b. h.above E f k j b y) (f.closed i k j r x y z e));
    }

-- ---- a new tie

module _ (m : Meaning) (ties : List Tie) (t : Tie) (S C : Net)
    (l : Lawful m) (s : Settled m ties S) (w : Started m ties t S C) where
  fewer : Follows m ties (adding ties t)
  fewer = record {
    linked = λ u a. tied (Memᴰ.append_left (t ∷ []) a);
    under = λ D f u a. f.under u (Memᴰ.append_left (t ∷ []) a);
  }

  -- with the universe on the new links, S is a candidate there too, and every closed one lies within it
  wide_in : (i j r : ℕ) → Linked (adding ties t) i j → Reading m r → (Linked ties i j → In r (S i j)) → In r (w.wide i j)
  wide_in i j r x u f =
      either_way (has (w.wide i j) r) (λ y. rw (w.old i j y) (f y)) (λ n. rw (w.new i j x n) u)

  wide_candidate : Candidate m (adding ties t) w.wide
  wide_candidate = record {
    within = within;
    both_ways = λ i j r x h.
        wide_in j i (m.converse r) (turned x) (l.converse_in r (within i j r x h))
        (λ y. s.fit.candidate.both_ways i j r (turned y) (rw (w.old i j (turned y)) at h));
  }
    where
      within : (i j r : ℕ) → Linked (adding ties t) i j → In r (w.wide i j) → Reading m r
      within i j r x h =
          either_way (has m.universe r)
          (λ y. s.fit.candidate.within i j r y (rw (w.old i j y) at h)) (λ n. rw (w.new i j x n) at h)

  wide_above : Above m (adding ties t) w.wide
  wide_above D f i j r x h =
      wide_in i j r x (f.candidate.within i j r x h)
      (λ y. s.greatest D (fits m ties (adding ties t) D fewer f) i j r y h)

  start_under : Under (adding ties t) C
  start_under u a r h = elim (Memᴰ.append_cases ties a) [
    | inl b ↦
        let k = cut_inside m l _ _ _ _ w.wide C wide_candidate w.cut u.first u.second r (tied a) h in
        s.fit.under u b r (rw (w.old u.first u.second (tied b)) at k)
    | inr b ↦
        let P : Tie → Type 0 = λ v. In r (C v.first v.second) → In r v.mask in
        let f : P t = λ k. (has_cut (w.wide t.first t.second) t.mask r (rw w.cut.there at k)).1 in
        subst P (sym (Memᴰ.eq_of_singleton b)) f h
  ]

  holding : Holding m (adding ties t) C
  holding = record {
    candidate = cut_candidate m l _ _ _ _ w.wide C wide_candidate w.cut;
    under = start_under;
    above = λ E f.
        cut_above m l _ _ _ _ w.wide C wide_candidate w.cut E f.candidate (wide_above E f)
        (f.under t (Memᴰ.append_right ties (Memᴰ.head refl)));
  }

pub starts : Starts
starts = holding
