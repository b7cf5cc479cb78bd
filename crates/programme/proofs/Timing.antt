-- Ties of instants and times: what a meaning that agrees with that of instants settles, and which ties then clash.
use Rattle.std.proofs.Common.{ℕ, ◌↔◌, List, sym}
use Rattle.algebra.specs.Meaning.{Meaning, Lawful, Reading}
use Rattle.algebra.specs.Instants.{instants}
use Rattle.algebra.specs.Sets.{composition_to, composition_from}
use Rattle.algebra.specs.InstantLaws.{instant_laws}
use Rattle.network.specs.Ties.{Tie, Proper, Different}
use Rattle.network.specs.Candidates.{Net, ClosedCandidate, Settled, Emptied}
use Rattle.network.specs.Arrangements.{Times, TimesMeet}
use Rattle.network.proofs.Timing.{exact}
use Rattle.programme.specs.Timely.{Agrees}

agrees_back : {m n : Meaning} → Agrees m n → Agrees n m
agrees_back {m} {n} a = record {
  universe = sym a.universe;
  converse = λ r h. sym (a.converse r (rw a.universe h));
  composition = λ p q h k. sym (a.composition p q (rw a.universe h) (rw a.universe k));
}

fit_over : (m n : Meaning) (ties : List Tie) (S : Net) → Lawful m → Lawful n → Agrees m n →
    ClosedCandidate m ties S → ClosedCandidate n ties S
fit_over m n ties S l k a f = record {
  candidate = record {
    within = λ i j r x h. reading r (f.candidate.within i j r x h);
    both_ways = λ i j r x h. rw (a.converse r (f.candidate.within i j r x h)) at (f.candidate.both_ways i j r x h);
  };
  under = f.under;
  closed = λ i p j r x y z h.
      let c = composition_to m l (S i p) (S p j) r (f.closed i p j r x y z h) in
      composition_from n k (S i p) (S p j) r (record {
        a = c.a;
        b = c.b;
        a_reading = reading c.a c.a_reading;
        b_reading = reading c.b c.b_reading;
        a_in = c.a_in;
        b_in = c.b_in;
        gives = rw (a.composition c.a c.b c.a_reading c.b_reading) at c.gives;
      });
}
  where
    reading : (r : ℕ) → Reading m r → Reading n r
    reading r h = rw a.universe at h

settled_over : (m n : Meaning) (ties : List Tie) (S : Net) → Lawful m → Lawful n → Agrees m n →
    Settled m ties S → Settled n ties S
settled_over m n ties S l k a s = record {
  fit = fit_over m n ties S l k a s.fit;
  greatest = λ D f. s.greatest D (fit_over n m ties D k l (agrees_back a) f);
}

-- a link is empty exactly when no times meet the ties
pub empty_or_timed : (m : Meaning) (n : ℕ) (ties : List Tie) (S : Net) → Lawful m → Agrees m instants → Proper n ties →
    ¬ Different ties → Settled m ties S → Emptied ties S ↔ ((time : Times) → ¬ TimesMeet ties time)
empty_or_timed m n ties S l a p plain s =
    exact n ties S p plain (settled_over m instants ties S l instant_laws a s)
