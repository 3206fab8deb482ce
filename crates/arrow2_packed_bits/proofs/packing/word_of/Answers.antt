use Rattle.std.proofs.Common.{◌∙◌, ap, map, not, length, arith, eqb}
use Rattle.std.specs.Int as width
use Rattle.std.proofs.lemmas.Simd.{bitmask_splat}
use Rattle.std.proofs.lemmas.List.{length-map}
use Rattle.std.specs.Int.{from_bool}
use Rattle.arrow2_model.specs.Lists.{num}
use Rattle.arrow2_packed_bits.proofs.PackedWords.{flags}
use Rattle.arrow2_packed_bits.proofs.packing.word_of.Goals as goal

pub returns : goal.returns
returns c =
    let e = c.lanes_of-lanes.ensures in
    let wide = ap length e ∙ (length-map c.args.items.now from_bool ∙ c.told-items) in
    bitmask_splat width.w8 (λ a b. not (eqb a b)) c.lanes_of-lanes.result 64 0 wide (omega arith) ∙ ap num (ap (map (λ x. not (eqb x 0))) e ∙ flags c.args.items.now)
