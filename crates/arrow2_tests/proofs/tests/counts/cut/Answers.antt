use Rattle.std.proofs.Common.{arith}
use Rattle.std.proofs.lemmas.Result.{IfOk-at_ok}
use Rattle.arrow2_walks.specs.Cuts.{piece_at}
use Rattle.arrow2_tests.proofs.ReadRows.{cut_from_byte}
use Rattle.arrow2_tests.proofs.tests.counts.cut.Goals as goal

pub returns-clause-reads : goal.returns-clause-reads
returns-clause-reads g c =
    cut_from_byte (piece_at c.args.pieces.now.pieces c.args.p) c.get-piece.result.now c.as_slice-within.result.1 c.args.len c.args.i c.args.pieces.now.reads c.cut.new.self.reads
    c.get-piece.ensures c.as_slice-within.ensures.offset (omega arith) (omega (arith, c.len-2.ensures.items)) (IfOk-at_ok _ c.expect.ensures c.cut.ensures.reads)
