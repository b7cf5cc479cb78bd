-- Where closing starts with a tie more: its pair is linked, the links are filled in, and its sets are cut.
use Rattle.std.proofs.Common.{◌≡◌, ℕ, ◌<◌, true, false, ◌≢◌, ◌⊎◌, ◌↔◌, List, [], ◌∷◌, sym, refl, ap, ◌∙◌, subst, inl, inr, arith}
use mathlib.Core.List.Memᴰ
use Rattle.std.proofs.lemmas.Bool.{cases_lt, cases_Bool, both_ways}
use lib.Bits.{bit_and}
use Rattle.algebra.specs.Meaning.{Meaning, Lawful, Reading, converse_of}
use Rattle.algebra.specs.Bits.{has_cut, cut_has}
use Rattle.network.specs.Ties.{In, Tie, Among, Apart, Proper}
use Rattle.network.specs.Links.{Linked, tied, turned, filled}
use Rattle.network.specs.Closing.{adding, Cut, Started}
use Rattle.network.proofs.Links.{apart, linked_too, least}
use Rattle.network.proofs.Closing.{starts}
use Rattle.network.proofs.Sets.{equal, converse_from}
use Rattle.programme.specs.Networks.{bit_at, cell, net_of, tie_of, Reflects}
use Rattle.programme.specs.Steps.{Same, pending_at, Grown, Fewer, Implied, FullFrom, Trimmed, Covered, Midway, Ready}
use Rattle.programme.specs.declared.linkage.Network.{Network}
use Rattle.programme.proofs.Rows.{pending_none}
use Rattle.programme.proofs.Growth.{same_by, fewer_still}
use Rattle.programme.proofs.Moves.{pending_same}

-- c is b with the sets of i and j cut by the mask; if that changes a set, the pair is pending
pub record Cutting (m : Meaning) (i j mask : ℕ) (b c : Network) : Type 0 where
  pub links : c.links ≡ b.links
  pub on : cell c.sets i j ≡ bit_and (cell b.sets i j) mask
  pub across : cell c.sets j i ≡ bit_and (cell b.sets j i) (converse_of m mask)
  pub off : (x y : ℕ) → ¬ Same i j x y → cell c.sets x y ≡ cell b.sets x y
  pub still : (pending_at c i j ≡ true) ⊎ (c.sets ≡ b.sets)
  pub waits_more : (x y : ℕ) → pending_at b x y ≡ true → pending_at c x y ≡ true
  pub waits_only : (x y : ℕ) → pending_at c x y ≡ true → (pending_at b x y ≡ true) ⊎ Same i j x y

-- b is s with i and j linked, and then the links filled in
pub record Linking (s b : Network) (i j : ℕ) : Type 0 where
  pub paired : Network
  pub pair : Grown (Same i j) s paired
  pub there : bit_at paired.links i j ≡ true
  pub fill : Grown (Implied paired) paired b
  pub full : FullFrom 0 b

-- s reflects the ties; b has the pair of i and j linked and the links filled in, c the sets cut
module _ (m : Meaning) (law : Lawful m) (s b c : Network) (i j mask : ℕ) (hi : i < 48) (hj : j < 48) (d : i ≢ j)
    (linking : Linking s b i j) (t : Cutting m i j mask b c) (ties : List Tie) (proper : Proper 48 ties) (r : Reflects m s ties) where
  abbrev a : Network
  a = linking.paired

  abbrev p : Grown (Same i j) s a
  p = linking.pair

  abbrev q : Grown (Implied a) a b
  q = linking.fill

  abbrev new : Tie
  new = tie_of i j mask

  abbrev more : List Tie
  more = adding ties new

  proper_more : Proper 48 more
  proper_more u k = elim (Memᴰ.append_cases ties k) [
    | inl x ↦ proper u x
    | inr x ↦
        let P : Tie → Type 0 = λ v. Apart 48 v.first v.second in
        subst P (sym (Memᴰ.eq_of_singleton x)) (record { first_in = hi; second_in = hj; differ = d })
  ]

  -- ---- the links

  old_linked : (x y : ℕ) → Linked ties x y → Linked more x y
  old_linked x y = linked_too (λ u k. tied (Memᴰ.append_left (new ∷ []) k))

  ij : Linked more i j
  ij = tied {t = new} (Memᴰ.append_right ties (Memᴰ.head refl))

  pair_linked : (x y : ℕ) → Same i j x y → Linked more x y
  pair_linked x y = same_by (Linked more) i j x y ij (turned ij)

  first_fewer : Fewer a more
  first_fewer = fewer_still s a more pair_linked p (λ x y h. old_linked x y ((r.linked x y).0 h))

  fewer : Fewer b more
  fewer = fewer_still a b more (λ x y f. f more first_fewer) q first_fewer

  kept : (x y : ℕ) → bit_at s.links x y ≡ true → bit_at b.links x y ≡ true
  kept x y h = q.more x y (p.more x y h)

  ij_bit : bit_at b.links i j ≡ true
  ij_bit = q.more i j linking.there

  even : (x y : ℕ) → bit_at b.links x y ≡ true → bit_at b.links y x ≡ true
  even x y h = elim (q.only x y h) [
    | inr f ↦ f.back
    | inl k ↦ elim (p.only x y k) [
      | inr f ↦ q.more y x f.back
      | inl o ↦ kept y x ((r.linked y x).1 (turned ((r.linked x y).0 o)))
    ]
  ]

  ties_linked : (u : Tie) → Among u more → bit_at b.links u.first u.second ≡ true
  ties_linked u k = elim (Memᴰ.append_cases ties k) [
    | inl x ↦ kept u.first u.second ((r.linked u.first u.second).1 (tied x))
    | inr x ↦
        let P : Tie → Type 0 = λ v. bit_at b.links v.first v.second ≡ true in
        subst P (sym (Memᴰ.eq_of_singleton x)) ij_bit
  ]

  below : (x y k : ℕ) → x < y → y < k → bit_at b.links k x ≡ true → bit_at b.links k y ≡ true →
      bit_at b.links x y ≡ true
  below x y k o l f g =
      linking.full k x y (omega arith) (apart proper_more (fewer k x f)).first_in (record { order = o; low = l; first = f; second = g })

  filled_in : (x y k : ℕ) → x ≢ y → x < k → y < k → bit_at b.links x k ≡ true → bit_at b.links y k ≡ true →
      bit_at b.links x y ≡ true
  filled_in x y k n lx ly f g = elim (cases_lt x y) [
    | inl o ↦ below x y k o ly (even x k f) (even y k g)
    | inr o ↦ even y x (below y x k (omega arith) lx (even y k g) (even x k f))
  ]

  linked : (x y : ℕ) → (bit_at b.links x y ≡ true) ↔ Linked more x y
  linked x y = (fewer x y, λ l. least more (λ f g. bit_at b.links f g) ties_linked even filled_in x y l)

  -- ---- the sets

  same_cell : (x y : ℕ) → cell b.sets x y ≡ cell s.sets x y
  same_cell x y = ap (λ (rows : List (List ℕ)). cell rows x y) (q.sets ∙ p.sets)

  unlinked : (x y : ℕ) → bit_at b.links x y ≡ false → bit_at s.links x y ≡ false
  unlinked x y h = elim (cases_Bool (bit_at s.links x y)) [
    | inl o ↦ absurd (both_ways (bit_at b.links x y) h (kept x y o))
    | inr o ↦ o
  ]

  cut : Cut m more i j mask (net_of b) (net_of c)
  cut = record {
    there = t.on;
    back = t.across;
    elsewhere = λ x y l f g. t.off x y (λ z. elim z [ inl w ↦ f w | inr w ↦ g w ]);
  }

  started : Started m ties new (net_of s) (net_of c)
  started = record {
    wide = net_of b;
    old = λ x y l. same_cell x y;
    new = λ x y l n.
        let w = apart proper_more l in
        same_cell x y ∙ r.free x y w.first_in w.second_in (elim (cases_Bool (bit_at s.links x y)) [
          | inl o ↦ absurd (n ((r.linked x y).0 o))
          | inr o ↦ o
        ]);
    cut = cut;
  }

  -- ---- what is pending

  idle : (x y : ℕ) → pending_at s x y ≡ false
  idle x y = pending_none s x y (r.idle x y) (r.idle y x)

  waits : (x y : ℕ) → pending_at c x y ≡ true → Linked more x y
  waits x y h = elim (t.waits_only x y h) [
    | inr z ↦ pair_linked x y z
    | inl f ↦ elim (q.waits_only x y f) [
      | inr o ↦ fewer x y o
      | inl g ↦ elim (p.waits_only x y g) [
        | inr o ↦ first_fewer x y o
        | inl k ↦ absurd (both_ways (pending_at s x y) (idle x y) k)
      ]
    ]
  ]

  midway : Midway m more c
  midway = record {
    proper = proper_more;
    linked = λ x y. subst (λ rows. (bit_at rows x y ≡ true) ↔ Linked more x y) (sym t.links) (linked x y);
    free = λ x y hx hy h.
        let f : bit_at b.links x y ≡ false = rw t.links at h in
        t.off x y (λ z. both_ways (bit_at b.links x y) f ((linked x y).1 (pair_linked x y z)))
        ∙ same_cell x y ∙ r.free x y hx hy (unlinked x y f);
    holding = starts m ties new (net_of s) (net_of c) law r.settled started;
    waits = waits;
  }

  -- a link that is not pending is an old one, and its set is as it was
  still_linked : (x y : ℕ) → pending_at c x y ≡ false → Linked more x y → Linked ties x y
  still_linked x y h l = elim (q.only x y ((linked x y).1 l)) [
    | inr f ↦ absurd (both_ways (pending_at c x y) h (t.waits_more x y f.waits))
    | inl k ↦ elim (p.only x y k) [
      | inr f ↦ absurd (both_ways (pending_at c x y) h (t.waits_more x y (q.waits_more x y f.waits)))
      | inl o ↦ (r.linked x y).0 o
    ]
  ]

  still_cell : (x y : ℕ) → pending_at c x y ≡ false → cell c.sets x y ≡ cell s.sets x y
  still_cell x y h = elim t.still [
    | inl w ↦ t.off x y (λ z. both_ways (pending_at c x y) h (pending_same c i j x y w z)) ∙ same_cell x y
    | inr e ↦ ap (λ (rows : List (List ℕ)). cell rows x y) e ∙ same_cell x y
  ]

  covered : (x y z : ℕ) → Linked more x y → Linked more y z → Linked more x z → Covered m c x y z
  covered x y z xy yz xz f g h =
      rw (still_cell x y f, still_cell y z g, still_cell x z h)
      (λ k. r.settled.fit.closed x y z k (still_linked x y f xy) (still_linked y z g yz) (still_linked x z h xz))

  pub ready : Ready m more c
  ready = record { midway = midway; covered = covered }

-- ---- how a tie may cut, and what is full already

pub cutting : (m : Meaning) (b c : Network) (i j mask back : ℕ) → i ≢ j → back ≡ converse_of m mask → Trimmed i j mask back b c →
    Cutting m i j mask b c
cutting m b c i j mask back d e t = record {
  links = t.links;
  on = t.on d;
  across = rw (← e) (t.across d);
  off = t.off;
  still = inl t.waits;
  waits_more = t.waits_more;
  waits_only = t.waits_only;
}

module _ (m : Meaning) (law : Lawful m) (s : Network) (ties : List Tie) (r : Reflects m s ties) where
  -- the pairs of linked entries that share a greater neighbour are linked
  pub full_already : FullFrom 0 s
  full_already k a b h l w =
      let differ : a ≢ b = λ e. omega (arith, w.order) in
      (r.linked a b).1
      (filled differ (omega (arith, w.order, w.low)) w.low (turned ((r.linked k a).0 w.first)) (turned ((r.linked k b).0 w.second)))

  -- what stands from j to i is the converse of a reading that stands from i to j
  turned_in : (i j : ℕ) → i < 48 → j < 48 → (x : ℕ) → In x (cell s.sets j i) → Reading m x × In (m.converse x) (cell s.sets i j)
  turned_in i j hi hj x h = elim (cases_Bool (bit_at s.links j i)) [
    | inl o ↦
        let l = (r.linked j i).0 o in
        (r.settled.fit.candidate.within j i x l h, r.settled.fit.candidate.both_ways j i x l h)
    | inr o ↦
        let u = rw (r.free j i hj hi o) at h in
        let f = r.free i j hi hj (elim (cases_Bool (bit_at s.links i j)) [
          | inl k ↦ absurd (both_ways (bit_at s.links j i) o ((r.linked j i).1 (turned ((r.linked i j).0 k))))
          | inr k ↦ k
        ]) in
        (u, rw f (law.converse_in x u))
  ]

  -- a set within the mask is not cut, and neither is the one the other way
  pub uncut : (b : Network) (i j mask : ℕ) → i < 48 → j < 48 → b.sets ≡ s.sets →
      bit_and (cell b.sets i j) mask ≡ cell b.sets i j → Cutting m i j mask b b
  uncut b i j mask hi hj e t = record {
    links = refl;
    on = sym t;
    across =
        equal (cell b.sets j i) (bit_and (cell b.sets j i) (converse_of m mask))
        (λ x h.
        let w = turned_in i j hi hj x (rw e at h) in
        cut_has (cell b.sets j i) (converse_of m mask) x h
        (converse_from m law mask x w.0 (has_cut (cell b.sets i j) mask (m.converse x) (rw (t, e) w.1)).1))
        (λ x h. (has_cut (cell b.sets j i) (converse_of m mask) x h).0);
    off = λ x y z. refl;
    still = inr refl;
    waits_more = λ x y h. h;
    waits_only = λ x y h. inl h;
  }
