-- Writing a tie: it leaves some link empty, or none.
use Rattle.std.proofs.Common.{refl}
use Rattle.std.proofs.lemmas.Bool.Decides.{not_from_Decides}
use Rattle.programme.proofs.Taking.{taken_shows, taken_answered, taken_timely, clash_answered, clash_timely}
use Rattle.programme.proofs.attempt.write_tie.Goals as goal

pub returns-then-emptied : goal.returns-then-emptied
returns-then-emptied g c =
    let law = g.met.B.Algebra.lawful c.args.algebra.now in
    let (first_in, (second_in, differ)) = c.requires in
    let found = c.if-emptied.ensures.0 refl in
    record {
      entries = record { count = c.give.ensures.entries.count; names = c.give.ensures.entries.names };
      answered = λ L w.
          clash_answered _ law _ _ _ _ _ _ first_in second_in differ c.give.ensures c.settle.ensures L w found;
      timely = λ L w.
          clash_timely _ law _ _ _ _ _ _ first_in second_in differ c.give.ensures c.settle.ensures L w found;
      shown = λ L w. tt;
    }

pub returns : goal.returns
returns g c =
    let law = g.met.B.Algebra.lawful c.args.algebra.now in
    let (first_in, (second_in, differ)) = c.requires in
    let full = not_from_Decides _ c.if-emptied.ensures refl in
    record {
      entries = record { count = c.give.ensures.entries.count; names = c.give.ensures.entries.names };
      answered = λ L w.
          taken_answered _ law _ _ _ _ _ _ first_in second_in differ c.give.ensures c.settle.ensures L w full;
      timely = λ L w.
          taken_timely _ law _ _ _ _ _ _ first_in second_in differ c.give.ensures c.settle.ensures L w full;
      shown = λ L w.
          taken_shows _ law _ _ _ _ _ _ first_in second_in differ c.give.ensures c.settle.ensures L w full _
          (record { count = refl; names = refl }) refl refl;
    }
