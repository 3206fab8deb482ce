use Rattle.std.proofs.Common.{◌∙◌, ◌≡◌, length, sym, bit_and, bit_xor}
use lib.Lanes.{zip2}
use Rattle.std.proofs.lemmas.Simd.{length-zip2}
use Rattle.arrow2_kernels.proofs.LaneSteps.{chosen_lane}
use Rattle.arrow2_kernels.proofs.simd.select.Goals as goal

pub returns : goal.returns
returns c =
    let w = c.args.which in
    let y = c.args.yes in
    let n = c.args.no in
    let lw = c.fits-which.0 in
    let ly = c.fits-yes.0 in
    let ln = c.fits-no.0 in
    let d : length (zip2 bit_xor y n) ≡ 32 = length-zip2 bit_xor y n (ly ∙ sym ln) ∙ ly in
    let m : length (zip2 bit_and w (zip2 bit_xor y n)) ≡ 32 = length-zip2 bit_and w (zip2 bit_xor y n) (lw ∙ sym d) ∙ lw in
    record {
      long = length-zip2 bit_xor n (zip2 bit_and w (zip2 bit_xor y n)) (ln ∙ sym m) ∙ ln;
      chosen = λ k i h g. chosen_lane w y n 32 k i lw ly ln d m h;
    }
