-- The turns of closing: a pending pair is taken off and its triangles narrowed; where none is left the network is settled.
use Rattle.std.proofs.Common.{sum, sum_by, ◌≡◌, ℕ, ◌+◌, ◌*◌, ◌^◌, ◌<◌, true, false, ◌⊎◌, ◌↔◌, List, sym, ap, ◌∙◌, subst, inl, inr, arith}
use Rattle.std.proofs.lemmas.Bool.{cases_Bool, both_ways, or_parts}
use Rattle.algebra.specs.Masks.{has}
use Rattle.algebra.specs.Meaning.{Meaning, Lawful, Reading}
use Rattle.algebra.specs.Sets.{composition_to, composition_from}
use Rattle.network.specs.Ties.{Tie}
use Rattle.network.specs.Links.{Linked, turned}
use Rattle.network.specs.Candidates.{Candidate}
use Rattle.network.specs.Closing.{Holding}
use Rattle.network.proofs.Links.{apart}
use Rattle.network.proofs.Closing.{finishing}
use Rattle.programme.specs.Networks.{bit_at, cell, net_of, Reflects}
use Rattle.programme.specs.Steps.{Same, pending_at, weight, load, Shut, Covered, Around, Midway, Ready, Link, Move, Took}
use Rattle.programme.specs.declared.linkage.Network.{Network}
use Rattle.programme.proofs.Rows.{load_below}
use Rattle.programme.proofs.Moves.{not_pending, idle_back}

-- each turn leaves less to do
pub turn_less : {m : Meaning} {H : List Tie → Type 0} (s t u : Network) (i j : ℕ) → Took i j s t → Move m H t u →
    weight u * 2 ^ 70 + load u < weight s * 2 ^ 70 + load s
turn_less s t u i j p q =
    let e : weight t ≡ weight s = unfold weight in ap (sum_by sum) p.sets in
    let l = p.lighter in
    let b = load_below u in
    elim q.less [
      | inl f ↦ let x = ap weight f in let y = ap load f in omega arith
      | inr f ↦ omega arith
    ]

pub took_midway : (m : Meaning) (ties : List Tie) (s t : Network) (i j : ℕ) → Took i j s t → Midway m ties s →
    Midway m ties t
took_midway m ties s t i j p w = record {
  proper = w.proper;
  linked = λ a b. subst (λ rows. (bit_at rows a b ≡ true) ↔ Linked ties a b) (sym p.links) (w.linked a b);
  free = λ a b ha hb h. ap (λ (rows : List (List ℕ)). cell rows a b) p.sets ∙ w.free a b ha hb (rw p.links at h);
  holding = subst (λ (rows : List (List ℕ)). Holding m ties (λ a b. cell rows a b)) (sym p.sets) w.holding;
  waits = λ a b h. w.waits a b (p.fewer a b h);
}

-- ---- a triangle that is closed one way round is closed the other

module _ (m : Meaning) (law : Lawful m) (ties : List Tie) (w : Network) (mid : Midway m ties w) where
  swap : (a b r : ℕ) → Reading m a → Reading m b → Reading m r → has (m.composition a b) (m.converse r) ≡ true →
      has (m.composition (m.converse b) (m.converse a)) r ≡ true
  swap a b r ha hb hr h =
      let c = m.converse r in
      let hc = law.converse_in r hr in
      let ca = law.converse_in a ha in
      ap (has (m.composition (m.converse b) (m.converse a))) (sym (law.converse_twice r hr))
      ∙ sym (law.peirce_left b (m.converse c) (m.converse a) hb (law.converse_in c hc) ca)
      ∙ sym (law.peirce_right (m.converse a) c b ca hc hb)
      ∙ sym (law.peirce_left a b c ha hb hc)
      ∙ h

  cand : Candidate m ties (net_of w)
  cand = mid.holding.candidate

  module _ (i k j : ℕ) (ik : Linked ties i k) (kj : Linked ties k j) (ij : Linked ties i j) where
    shut_back : Shut m w i k j → Shut m w j k i
    shut_back f r h =
        let u = cand.within j i r (turned ij) h in
        let c = composition_to m law (cell w.sets i k) (cell w.sets k j) (m.converse r)
        (f (m.converse r) (cand.both_ways j i r (turned ij) h)) in
        composition_from m law (cell w.sets j k) (cell w.sets k i) r (record {
          a = m.converse c.b;
          b = m.converse c.a;
          a_reading = law.converse_in c.b c.b_reading;
          b_reading = law.converse_in c.a c.a_reading;
          a_in = cand.both_ways k j c.b kj c.b_in;
          b_in = cand.both_ways i k c.a ik c.a_in;
          gives = swap c.a c.b r c.a_reading c.b_reading u c.gives;
        })

    covered_back : Covered m w i k j → Covered m w j k i
    covered_back f x y z = shut_back (f (idle_back w k i y) (idle_back w j k x) (idle_back w j i z))

  -- all six ways
  record Six (i k j : ℕ) : Type 0 where
    ikj : Covered m w i k j
    jki : Covered m w j k i
    ijk : Covered m w i j k
    kji : Covered m w k j i
    kij : Covered m w k i j
    jik : Covered m w j i k

  six : (i k j : ℕ) → Linked ties i k → Linked ties k j → Linked ties i j → Around m w i k j → Six i k j
  six i k j ik kj ij f = record {
    ikj = f.ikj;
    jki = covered_back i k j ik kj ij f.ikj;
    ijk = f.ijk;
    kji = covered_back i j k ij (turned kj) ik f.ijk;
    kij = f.kij;
    jik = covered_back k i j (turned ik) ij kj f.kij;
  }

  six_back : (i k j : ℕ) → Six i k j → Six j k i
  six_back i k j f = record { ikj = f.jki; jki = f.ikj; ijk = f.jik; kji = f.kij; kij = f.kji; jik = f.ijk }

-- ---- one turn

module _ (m : Meaning) (law : Lawful m) (s t u : Network) (i j : ℕ) (p : Took i j s t) (q : Move m (Link i j) t u)
    (met : (k : ℕ) → k < 48 → bit_at t.links i k ≡ true → bit_at t.links j k ≡ true → Around m u i k j)
    (ties : List Tie) (r : Ready m ties s) where
  before : Midway m ties t
  before = took_midway m ties s t i j p r.midway

  ij : Linked ties i j
  ij = r.midway.waits i j p.was

  after : Midway m ties u
  after = q.holds ties ij before

  all_six : (k : ℕ) → Linked ties i k → Linked ties k j → Six m law ties u after i k j
  all_six k ik kj =
      six m law ties u after i k j ik kj ij
      (met k (apart before.proper ik).second_in ((before.linked i k).1 ik) ((before.linked j k).1 (turned kj)))

  six_same : (a k b : ℕ) → Same i j a b → Linked ties a k → Linked ties k b → Six m law ties u after a k b
  six_same a k b (inl e) x y = rw (e.0, e.1) (all_six k (rw e.0 at x) (rw e.1 at y))
  six_same a k b (inr e) x y =
      rw (e.0, e.1)
      (six_back m law ties u after i k j (all_six k (turned (rw e.1 at y)) (turned (rw e.0 at x))))

  was : (x y : ℕ) → pending_at t x y ≡ false → (pending_at s x y ≡ false) ⊎ Same i j x y
  was x y h =
      elim (cases_Bool (pending_at s x y)) [
        | inl e ↦ elim (p.only x y e) [ inl z ↦ absurd (both_ways (pending_at t x y) h z) | inr z ↦ inr z ]
        | inr e ↦ inl e
      ]

  same_cell : (x y : ℕ) → cell t.sets x y ≡ cell s.sets x y
  same_cell x y = ap (λ (rows : List (List ℕ)). cell rows x y) p.sets

  covered : (a b c : ℕ) → Linked ties a b → Linked ties b c → Linked ties a c → Covered m u a b c
  covered a b c ab bc ac f g h =
      let idle = λ (x y : ℕ) (z : pending_at u x y ≡ false). not_pending t u x y x y (q.waits_more x y) z in
      elim (was a b (idle a b f)) [
        | inr e ↦ (six_same a c b e ac (turned bc)).ijk f g h
        | inl f0 ↦ elim (was b c (idle b c g)) [
          | inr e ↦ (six_same b a c e (turned ab) ac).kij f g h
          | inl g0 ↦ elim (was a c (idle a c h)) [
            | inr e ↦ (six_same a b c e ab bc).ikj f g h
            | inl h0 ↦
                q.covered a b c
                (λ _ _ _. rw (same_cell a b, same_cell b c, same_cell a c) (r.covered a b c ab bc ac f0 g0 h0)) f g h
          ]
        ]
      ]

  pub turned_ready : Ready m ties u
  turned_ready = record { midway = after; covered = covered }

-- ---- the end

module _ (m : Meaning) (ties : List Tie) (w : Network) (r : Ready m ties w)
    (none : (x y : ℕ) → x < 48 → y < 48 → pending_at w x y ≡ false) where
  idle : (x y : ℕ) → pending_at w x y ≡ false
  idle x y =
      elim (cases_Bool (pending_at w x y)) [
        | inl e ↦ let a = apart r.midway.proper (r.midway.waits x y e) in none x y a.first_in a.second_in
        | inr e ↦ e
      ]

  idle_row : (x y : ℕ) → bit_at w.pending x y ≡ false
  unfolding pending_at
  idle_row x y = (or_parts (bit_at w.pending x y) (bit_at w.pending y x) (idle x y)).0

  reflects : Reflects m w ties
  reflects = record {
    linked = r.midway.linked;
    free = r.midway.free;
    settled =
        finishing m ties (net_of w) r.midway.holding
        (λ i k j x ik kj ij h. r.covered i k j ik kj ij (idle i k) (idle k j) (idle i j) x h);
    idle = idle_row;
  }

  pub at_rest : (u : Network) → u ≡ w → Reflects m u ties
  at_rest u e = subst (λ v. Reflects m v ties) (sym e) reflects
