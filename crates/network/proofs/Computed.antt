-- Nets of a few entries: a computed test that one is a closed candidate, and steps that put every closed candidate within it.
use Rattle.std.proofs.Common.{◌≡◌, ℕ, ◌<◌, Bool, true, not, ◌&&◌, eqb, ltb, List, [], ◌∷◌, sym, subst, inl, inr, arith}
use mathlib.Core.List.Memᴰ
use Rattle.std.proofs.lemmas.Bool.{and_parts, cases_lt, not-true, eqb-true, eqb-false, ltb-true}
use Rattle.algebra.specs.Meaning.{Meaning, Lawful, converse_of, composition_of}
use Rattle.algebra.specs.Tests.{all, all_at, Each, each_at}
use Rattle.network.specs.Ties.{In, Tie, Among, Proper}
use Rattle.network.specs.Links.{Linked, turned}
use Rattle.network.specs.Candidates.{Net, Under, ClosedCandidate, Settled}
use Rattle.network.proofs.Sets.{within, within_in, converse_from, converse_turn, composition_more}
use Rattle.network.proofs.Links.{apart}

-- p passes at every tie
unfoldable pub every : (Tie → Bool) → List Tie → Bool
every p [] = true
every p (t ∷ ties) = p t && every p ties

pub every_at : (p : Tie → Bool) (ties : List Tie) → every p ties ≡ true → (t : Tie) → Among t ties → p t ≡ true
unfolding every
every_at p [] e t a = absurd (Memᴰ.not-nil a)
every_at p (u ∷ ties) e t (Memᴰ.head q) = subst (λ t. p t ≡ true) (sym q) (and_parts (p u) _ e).0
every_at p (u ∷ ties) e t (Memᴰ.tail a) = every_at p ties (and_parts (p u) _ e).1 t a

-- the tie joins two different entries below n, and its set is within its mask
unfoldable pub tie_passes : ℕ → Net → Tie → Bool
tie_passes n S t =
    (ltb t.first n && ltb t.second n) &&
    (not (eqb t.first t.second) && within (S t.first t.second) t.mask)

-- the set from i to j is of readings, the converse of the one the other way, and within the compositions by way of any entry
unfoldable pub set_passes : Meaning → ℕ → Net → ℕ → ℕ → Bool
set_passes m n S i j =
    (within (S i j) m.universe && eqb (converse_of m (S i j)) (S j i)) &&
    all n (λ k. within (S i j) (composition_of m (S i k) (S k j)))

-- both tests pass at every tie and at every two entries below n
pub record Tested (m : Meaning) (n : ℕ) (ties : List Tie) (S : Net) : Type 0 where
  pub laws : Lawful m
  pub on_ties : every (tie_passes n S) ties ≡ true
  pub on_sets : all n (λ i. all n (set_passes m n S i)) ≡ true

-- what D has from i to j, if they are linked, S has too
abbrev pub Held : List Tie → Net → Net → ℕ → ℕ → Type 0
Held ties D S i j = Linked ties i j → (r : ℕ) → In r (D i j) → In r (S i j)

module _ {m : Meaning} {n : ℕ} {ties : List Tie} {S : Net} (w : Tested m n ties S) where
  proper : Proper n ties
  unfolding tie_passes
  proper t a =
      let (x, y) = and_parts _ _ (every_at (tie_passes n S) ties w.on_ties t a) in
      record {
        first_in = ltb-true _ _ (and_parts _ _ x).0;
        second_in = ltb-true _ _ (and_parts _ _ x).1;
        differ = eqb-false _ _ (not-true _ (and_parts _ _ y).0);
      }

  under : Under ties S
  unfolding tie_passes
  under t a r =
      let h = every_at (tie_passes n S) ties w.on_ties t a in
      within_in (S t.first t.second) t.mask r
      (and_parts (not (eqb t.first t.second)) _ (and_parts (ltb t.first n && ltb t.second n) _ h).1).1

  passed : (i j : ℕ) → Linked ties i j → set_passes m n S i j ≡ true
  passed i j x =
      let a = apart proper x in
      all_at n (set_passes m n S i) (all_at n (λ i. all n (set_passes m n S i)) w.on_sets i a.first_in) j a.second_in

  readings : (i j r : ℕ) → Linked ties i j → In r (S i j) → In r m.universe
  unfolding set_passes
  readings i j r x = within_in (S i j) m.universe r (and_parts _ _ (and_parts _ _ (passed i j x)).0).0

  converse_is : (i j : ℕ) → Linked ties i j → converse_of m (S i j) ≡ S j i
  unfolding set_passes
  converse_is i j x = eqb-true _ _ (and_parts _ _ (and_parts _ _ (passed i j x)).0).1

  by_way : (i k j r : ℕ) → Linked ties i j → k < n → In r (S i j) → In r (composition_of m (S i k) (S k j))
  unfolding set_passes
  by_way i k j r x h =
      within_in (S i j) (composition_of m (S i k) (S k j)) r
      (all_at n (λ k. within (S i j) (composition_of m (S i k) (S k j))) (and_parts _ _ (passed i j x)).1 k h)

  fit : ClosedCandidate m ties S
  fit = record {
    candidate = record {
      within = readings;
      both_ways = λ i j r x h.
          subst (In (m.converse r)) (converse_is i j x) (converse_turn m w.laws (S i j) r (readings i j r x h) h);
    };
    under = under;
    closed = λ i k j r x y z. by_way i k j r z (apart proper y).first_in;
  }

  module _ {D : Net} (c : ClosedCandidate m ties D) where
    -- a step by way of k
    pub round : {i k j : ℕ} → Linked ties i k → Linked ties k j → Held ties D S i k → Held ties D S k j →
        within (composition_of m (S i k) (S k j)) (S i j) ≡ true → Held ties D S i j
    round {i} {k} {j} u v f g e x r h =
        within_in (composition_of m (S i k) (S k j)) (S i j) r e
        (composition_more m w.laws (D i k) (D k j) (S i k) (S k j) r (f u) (g v) (c.closed i k j r u v x h))

    -- a step the other way
    pub back : {i j : ℕ} → Held ties D S i j → Held ties D S j i
    back {i} {j} f x r h =
        subst (In r) (converse_is i j (turned x))
        (converse_from m w.laws (S i j) r (c.candidate.within j i r x h)
        (f (turned x) (m.converse r) (c.candidate.both_ways j i r x h)))

  -- it is enough to go from smaller entries to greater
  pub settled : ((D : Net) → ClosedCandidate m ties D → Each (λ j. Each (λ i. Held ties D S i j) j) n) → Settled m ties S
  settled each = record { fit = fit; greatest = λ D c i j r x. held D c i j x r }
    where
      held : (D : Net) → ClosedCandidate m ties D → (i j : ℕ) → Held ties D S i j
      held D c i j x =
          let a = apart proper x in
          elim (cases_lt i j) [
            | inl h ↦ each_at _ j (each_at _ n (each D c) j a.second_in) i h x
            | inr h ↦ elim (cases_lt j i) [
              | inl k ↦ back c {i = j} {j = i} (each_at _ i (each_at _ n (each D c) i a.first_in) j k) x
              | inr k ↦ absurd (a.differ (omega arith))
            ]
          ]
