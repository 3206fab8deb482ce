use Rattle.std.proofs.Common.{◌∙◌, ◌+◌, ◌*◌, ℕ, arith}
use Rattle.arrow2_bits.proofs.ZeroCounts.{ones_in_two}
use Rattle.arrow2_bits.proofs.counts.ones_in_blocks.Goals as goal

pub loop-i-preserved : goal.loop-i-preserved
loop-i-preserved c =
    let before : ℕ = 64 * c.loop-i.i in
    let bytes = c.loop-i.stored.bytes in
    let at : ℕ = c.args.first + before in
    let front = c.ones_in_block-front in
    let back = c.ones_in_block-back in
    let both = ones_in_two bytes front.new.stored.bytes at 32 32 64 front.result back.result front.ensures.bytes (omega arith) front.ensures.ones back.ensures.ones in
    record {
      bytes = back.ensures.bytes ∙ (front.ensures.bytes ∙ c.loop-i.invariant.bytes);
      reads = omega (arith, back.ensures.reads, front.ensures.reads, c.loop-i.invariant.reads);
      counted = ones_in_two c.args.stored.now.bytes bytes c.args.first before 64 (64 * (c.loop-i.i + 1)) c.loop-i.ones (front.result + back.result) c.loop-i.invariant.bytes (omega arith) c.loop-i.invariant.counted both;
    }
