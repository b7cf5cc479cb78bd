-- Closed candidates and settled nets: these are sound and unique, and show whether the ties clash.
use Rattle.std.proofs.Common.{◌≡◌, ℕ, ◌^◌, List, ◌∙◌}
use Rattle.algebra.specs.Meaning.{Meaning, Lawful, converse_of}
use Rattle.algebra.specs.Sets.{composition_from}
use Rattle.network.specs.Ties.{Tie, Proper}
use Rattle.network.specs.Links.{Linked, turned}
use Rattle.network.specs.Candidates.{Net, Candidate, ClosedCandidate, Follows}
use Rattle.network.specs.Arrangements.{Arrangement, Meets}
use Rattle.network.specs.Statements.{Sound, Unique, ClashShows}
use Rattle.network.proofs.Sets.{equal, one_in, one_is, converse_to, converse_from}
use Rattle.network.proofs.Links.{apart, linked_too}

-- an arrangement that meets the ties, with one reading on each link, is a closed candidate
arranged : (m : Meaning) (n : ℕ) (ties : List Tie) (ρ : ℕ → ℕ → ℕ) →
    Lawful m → Proper n ties → Arrangement m n ρ → Meets ties ρ → ClosedCandidate m ties (λ i j. 2 ^ ρ i j)
arranged m n ties ρ l p a meets = record {
  candidate = record {
    within = λ i j r x h. rw (one_is (ρ i j) r h) (a.reading i j (apart p x));
    both_ways = λ i j r x h. rw (one_is (ρ i j) r h) (rw (← a.both_ways i j (apart p x)) (one_in (ρ j i)));
  };
  under = λ t x r h. rw (one_is (ρ t.first t.second) r h) (meets t x);
  closed = λ i k j r x y z h.
      rw (one_is (ρ i j) r h)
      (composition_from m l (2 ^ ρ i k) (2 ^ ρ k j) (ρ i j) (record {
        a = ρ i k;
        b = ρ k j;
        a_reading = a.reading i k (apart p x);
        b_reading = a.reading k j (apart p y);
        a_in = one_in (ρ i k);
        b_in = one_in (ρ k j);
        gives = a.closed i k j (apart p x) (apart p y) (apart p z);
      }));
}

pub sound : Sound
sound m n ties S ρ l p s a meets i j x =
    s.greatest (λ i j. 2 ^ ρ i j) (arranged m n ties ρ l p a meets) i j (ρ i j) x (one_in (ρ i j))

pub unique : Unique
unique m ties S T s t i j x =
    equal (S i j) (T i j) (λ r. t.greatest S s.fit i j r x) (λ r. s.greatest T t.fit i j r x)

pub clash_shows : ClashShows
clash_shows m ties S s = (
  λ (T, t, (i, j, x, e)). (i, j, x, unique m ties S T s t i j x ∙ e),
  λ w. (S, s, w),
)

-- a closed candidate under some ties is one under those that follow from them
pub fits : (m : Meaning) (less more : List Tie) (D : Net) →
    Follows m less more → ClosedCandidate m more D → ClosedCandidate m less D
fits m less more D f c = record {
  candidate = record {
    within = λ i j r x. c.candidate.within i j r (too x);
    both_ways = λ i j r x. c.candidate.both_ways i j r (too x);
  };
  under = f.under D c;
  closed = λ i k j r x y z. c.closed i k j r (too x) (too y) (too z);
}
  where
    too : {i j : ℕ} → Linked less i j → Linked more i j
    too = linked_too f.linked

-- the set of a link is the converse of the one the other way
pub other_way : {m : Meaning} {ties : List Tie} {S : Net} {i j : ℕ} →
    Lawful m → Candidate m ties S → Linked ties i j → S j i ≡ converse_of m (S i j)
other_way {m} {ties} {S} {i} {j} l c x =
    equal (S j i) (converse_of m (S i j))
    (λ r h. converse_from m l (S i j) r (c.within j i r (turned x) h) (c.both_ways j i r (turned x) h))
    (λ r h. let k = converse_to m l (S i j) r h in rw (l.converse_twice r k.0) at (c.both_ways i j (m.converse r) x k.1))
