use Rattle.std.proofs.Common.{refl, arith}
use Rattle.arrow2_kernels.proofs.LaneSteps.{spare_none, spare_cleared}
use Rattle.arrow2_kernels.proofs.simd_assign.clear_padding.Goals as goal

pub returns-then-len-ne0 : goal.returns-then-len-ne0
returns-then-len-ne0 c =
    let cut = spare_cleared c.args.bytes.now c.clear_last.new.bytes c.args.len _ c.requires.exact (omega arith) refl c.clear_last.ensures c.type_inv.bytes in
    record { canonical = cut.0; items = cut.1 }

pub returns-else-len-ne0-clause-canonical : goal.returns-else-len-ne0-clause-canonical
returns-else-len-ne0-clause-canonical c = spare_none c.args.bytes.now c.args.len c.requires.exact c.if-len-ne0.false c.type_inv.bytes
