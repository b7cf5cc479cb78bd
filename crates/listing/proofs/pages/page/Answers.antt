-- A file that loads, and one that is refused.
use Rattle.std.proofs.Common.{ap}
use Rattle.algebra.specs.House.{housed}
use Rattle.algebra.specs.Standard.{meaning_of}
use Rattle.listing.proofs.Opening.{file_refused, file_listed}
use Rattle.listing.proofs.pages.page.Goals as goal

pub returns-in-Err-load : goal.returns-in-Err-load
returns-in-Err-load c =
    let begun = c.open-programme.ensures in
    let (short, named) = c.in-Ok.ensures in
    file_refused _ _ _ (ap (λ a. housed (meaning_of a.below) a.mask) begun.lent) short named _ _ begun.shown _ c.in-Err-load.ensures.kept

pub returns-in_ok-listing-in-Ok-load : goal.returns-in_ok-listing-in-Ok-load
returns-in_ok-listing-in-Ok-load c =
    let begun = c.open-programme.ensures in
    let (short, named) = c.in-Ok.ensures in
    let told = c.in-Ok-load.ensures in
    file_listed _ _ _ (ap (λ a. housed (meaning_of a.below) a.mask) begun.lent) short named _ _ begun.shown _ _ _
    (ap (λ a. housed (meaning_of a.below) a.mask) told.lent) told.kept c.in_ok-listing-in-Ok-load.ensures
