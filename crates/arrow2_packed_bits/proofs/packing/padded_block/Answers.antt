use Rattle.std.proofs.Common.{◌∙◌, ap, false, length, arith}
use Rattle.std.proofs.lemmas.Slice.{drop-append-drop}
use Rattle.std.proofs.lemmas.List.{drop-replicate}
use Rattle.arrow2_packed_bits.proofs.packing.padded_block.Goals as goal

pub returns-clause-rest : goal.returns-clause-rest
returns-clause-rest c =
    let n = length c.args.items.now in
    drop-append-drop n _ c.copy_from_slice.new.self n (omega arith) (ap length c.copy_from_slice.ensures.after) ∙ drop-replicate n 64 false
