use Rattle.std.proofs.Common.{◌≡◌, ◌+◌, ◌-◌, ◌∙◌, ap, sym, arith, length, take, drop, length-take-le, length-drop}
use Rattle.arrow2_kernels.proofs.AssignSteps.{read_bit}
use Rattle.arrow2_kernels.proofs.assign.word_at.Goals as goal

pub returns-clause-items : goal.returns-clause-items
returns-clause-items g c i h =
    let size = g.met.T.BitChunk.size_law in
    let at = c.args.at in
    let count = c.args.count in
    let bytes = c.args.bytes.now in
    let block = c.padded_bytes-block.result in
    let all : at + count - at ≡ count = omega arith in
    let long : length (take (at + count - at) (drop at bytes)) ≡ count = ap (λ k. length (take k (drop at bytes))) all ∙ length-take-le count (drop at bytes) (omega (arith, length-drop at bytes, c.requires.inside)) in
    let front : take count block ≡ take count (drop at bytes) = ap (λ k. take k block) (sym long) ∙ (c.padded_bytes-block.ensures.front ∙ ap (λ k. take k (drop at bytes)) all) in
    read_bit g.T.BitChunk.WIDTH c.SIZE.result (g.T.BitChunk.number c.from_ne_slice.result) at count i bytes block
    (omega (arith, size, c.SIZE.ensures)) c.from_ne_slice.ensures.bits front
    (omega (arith, size, c.SIZE.ensures, c.padded_bytes-block.ensures.size, g.met.T.BitChunk.width_bounds)) c.requires.inside (omega (arith, c.requires.most, c.SIZE.ensures)) h
