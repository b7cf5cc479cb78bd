-- A name that is there already, and a new one.
use Rattle.std.proofs.Common.{length, refl, sym}
use Rattle.std.proofs.lemmas.Bool.Decides.{not_from_Decides}
use Rattle.std.proofs.lemmas.Bool.{eqb-false}
use Rattle.programme.proofs.Entering.{known_answered, entered_answered, entered_shows}
use Rattle.programme.proofs.programmes.Programme.entry.Goals as goal

pub returns-then-knows : goal.returns-then-knows
returns-then-knows g c =
    let some = eqb-false (length c.args.name.now) 0 (sym c.if-is_empty.ensures) in
    record {
      lent = refl;
      kept = record {
        answered = λ L w.
            known_answered _ _ L w _ _ c.of-held.ensures some c.if-name-gt-NAME_BYTES.false
            (c.if-not-printable.ensures.seen refl) (c.if-knows.ensures.0 refl);
        timely = λ L w. tt;
        shown = λ L w. w;
        refused = refl;
        tried = tt;
      };
    }

pub returns : goal.returns
returns g c =
    let some = eqb-false (length c.args.name.now) 0 (sym c.if-is_empty.ensures) in
    let seen = c.if-not-printable.ensures.seen refl in
    let new = not_from_Decides _ c.if-knows.ensures refl in
    record {
      lent = refl;
      kept = record {
        answered = λ L w.
            entered_answered _ _ L w _ _ c.of-held.ensures some c.if-name-gt-NAME_BYTES.false seen new
            c.if-number-ge-ENTRIES.false;
        timely = λ L w. tt;
        shown = λ L w.
            entered_shows _ _ L w _ _ c.of-held.ensures some c.if-name-gt-NAME_BYTES.false seen new
            c.if-number-ge-ENTRIES.false _ c.enter.ensures;
        refused = tt;
        tried = tt;
      };
    }
