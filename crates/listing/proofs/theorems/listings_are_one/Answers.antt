-- One listing.
use Rattle.listing.proofs.Adding.{one_listing}
use Rattle.listing.proofs.theorems.listings_are_one.Goals as goal

pub returns : goal.returns
returns c = one_listing
