use Rattle.std.proofs.Common.{◌∙◌, sym, false, arith, ◌+◌, ◌/◌, ◌%◌}
use Rattle.arrow2_model.proofs.Bits.{get_or-bits}
use Rattle.arrow2_bits.proofs.get_bit_from.Goals as goal

pub returns : goal.returns
returns c =
    let o = c.args.offset in let i = c.args.i in
    c.is_set.ensures ∙ sym (get_or-bits c.args.bytes.now (o / 8 + i / 8 + (o % 8 + i % 8) / 8) ((o % 8 + i % 8) % 8) (o + i) false (omega arith) (omega arith) (omega arith))
