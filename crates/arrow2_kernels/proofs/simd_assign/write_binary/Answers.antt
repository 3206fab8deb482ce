use Rattle.std.proofs.Common.{◌+◌, ◌*◌, [], ◌∷◌, subst, arith}
use Rattle.arrow2_kernels.proofs.LaneSteps.{lanes_written, all_written, Written, Acts}
use Rattle.arrow2_kernels.proofs.simd_assign.write_binary.Goals as goal

pub loop-k-preserved : goal.loop-k-preserved
loop-k-preserved c =
    let t = c.args.t in
    let old = c.args.bytes.now in
    let k = c.loop-k.k in
    lanes_written t c.from.result (32 * k) (32 * (k + 1)) old c.loop-k.bytes c.binary_lanes.result (c.args.other.now ∷ []) c.from.ensures (omega arith) (omega arith) c.binary_lanes.ensures.long
    c.binary_lanes.ensures.results c.loop-k.invariant

pub returns : goal.returns
returns c =
    all_written c.args.t c.args.bytes.now c.loop-at.bytes (c.args.other.now ∷ []) (c.requires.inside, tt)
    (subst (λ n. Written (Acts c.args.t (c.args.bytes.now ∷ c.args.other.now ∷ [])) c.args.bytes.now c.loop-at.bytes n) (omega arith) c.loop-at.invariant)
