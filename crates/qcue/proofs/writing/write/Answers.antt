-- A buffer that is too short, and one that is not.
use Rattle.qcue.proofs.Filing.{written}
use Rattle.qcue.proofs.writing.write.Goals as goal

pub returns : goal.returns
returns g c =
    written _ _ (g.met.B.Algebra.lawful c.args.programme.now.algebra) c.lay_out.ensures.house _ _ _ _ _ _
    c.lay_out-length.ensures.laid c.if-buffer-length.false c.lay_out.ensures.laid
