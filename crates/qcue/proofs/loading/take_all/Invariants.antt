-- How far the load has come.
use Rattle.std.proofs.Common.{◌≡◌, ◌+◌, ◌≤◌, length}
use Rattle.programme.specs.Ledgers.{Ledger}
use Rattle.programme.specs.Shown.{Shows}
use Rattle.qcue.proofs.Progress.{Reached}
use Rattle.qcue.proofs.loading.take_all.Given as goal

abbrev pub invariant-loop-loader : goal.invariant-loop-loader
invariant-loop-loader g l =
    let begun = l.initial.programme in
    let m = g.B.Algebra.meaning begun.algebra in
    record {
      lent : l.programme.algebra ≡ begun.algebra;
      within : l.offset + length l.rest ≡ length l.bytes;
      few : l.loader.ties ≤ l.offset;
      reached : (L : Ledger) → Shows m begun.sheet L → length L.names ≡ 0 →
          Reached m l.programme.sheet L l.bytes l.loader l.rest l.offset;
    }

abbrev pub decreases-loop-loader : goal.decreases-loop-loader
decreases-loop-loader g l = length l.rest
