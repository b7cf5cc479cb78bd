-- The blank sheet shows the blank ledger.
use Rattle.std.proofs.Common.{refl, arith}
use Rattle.programme.proofs.Opening.{short_all, blank_shows}
use Rattle.programme.proofs.sheets.Sheet.blank.Goals as goal

pub returns : goal.returns
returns c = record {
  shown = λ m e. blank_shows m _ refl refl (c.blank.ensures m e);
  short = short_all 48 c.none.result (omega (arith, c.none.ensures));
}
