-- From a file to its listing.
use Rattle.std.proofs.Common.{◌≡◌, ℕ, ◌≤◌, List, length, Ok, Err, refl, inr}
use Rattle.algebra.specs.Meaning.{Meaning}
use Rattle.programme.specs.Ledgers.{Ledger, blank}
use Rattle.programme.specs.Grown.{Orderly}
use Rattle.programme.specs.Shown.{Shows}
use Rattle.programme.specs.declared.sheets.Sheet.{Sheet}
use Rattle.programme.proofs.Growing.{blank_orderly}
use Rattle.qcue.specs.Headed.{Opened}
use Rattle.qcue.specs.Performed.{LoadKeeps}
use Rattle.qcue.specs.declared.refusals.Fault.{Fault}
use Rattle.qcue.proofs.Determined.{loads_zero, load_orderly}
use Rattle.listing.specs.Listed.{ListingOf}
use Rattle.listing.specs.Paged.{RefusedAs, ListedAs}
use Rattle.listing.specs.declared.pages.Refused.TheVariants.{File}

-- n is the meaning of the algebra that the programme holds
module _ (bytes : List ℕ) (m n : Meaning) (same : n ≡ m) (short : length bytes ≤ 16384) (named : Opened bytes m) (s t : Sheet)
    (shown : Shows m s blank) where
  pub file_refused : (fault : Fault) → LoadKeeps n s bytes (Err fault) t → RefusedAs bytes (File fault)
  file_refused fault keeps =
      let (K, h, _) = (rw same at keeps).answered blank shown in
      (short, inr (record { m = m; opened = named; last = K; refused = h }))

  pub file_listed : (k : ℕ) (text : List ℕ) (q : Meaning) → q ≡ n → LoadKeeps n s bytes (Ok k) t →
      ((L : Ledger) → Shows q t L → Orderly q L → ListingOf q L text) → ListedAs bytes text
  file_listed k text q still keeps lists =
      let (K, h, w) = (rw same at keeps).answered blank shown in
      let zero = loads_zero k h refl in
      record {
        short = short;
        m = m;
        opened = named;
        K = K;
        loaded = rw zero at h;
        listing = (rw (still, same) at lists) K w (load_orderly h (blank_orderly m));
      }
