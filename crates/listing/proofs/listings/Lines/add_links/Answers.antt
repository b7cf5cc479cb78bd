-- One row more.
use Rattle.std.proofs.Common.{refl, ◌∙◌, arith}
use Rattle.listing.proofs.Adding.{links_none, links_more, links_all}
use Rattle.listing.proofs.listings.Lines.add_links.Goals as goal

pub loop-first-init : goal.loop-first-init
loop-first-init g c = record { same = refl; few = omega arith; lines = links_none _ _ _ }

pub loop-first-preserved : goal.loop-first-preserved
loop-first-preserved g c =
    let told = c.in_ok-tied.ensures in
    let inv = c.loop-first.invariant in
    record {
      same = told.same ∙ inv.same;
      few = omega (arith, told.few, inv.few);
      lines =
          links_more _ _ _ c.entries-first-end.ensures.counted _ _ _ _ _ _ c.loop-first-test.true inv.lines
          (rw inv.same at told.added);
    }

pub returns-clause-added : goal.returns-clause-added
returns-clause-added g c =
    links_all _ _ _ c.entries-first-end.ensures.counted _ _ _ _ c.loop-first-test.false c.loop-first.invariant.lines
