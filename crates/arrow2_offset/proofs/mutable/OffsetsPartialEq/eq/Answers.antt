use Rattle.arrow2_offset.specs.Offsets.{offsets_of}
use Rattle.arrow2_offset.proofs.Same.{naturals_same}
use Rattle.arrow2_offset.proofs.mutable.OffsetsPartialEq.eq.Goals as goal

pub returns : goal.returns
returns g c =
    let d = naturals_same g.O.Number.value g.O.PartialEq.eq (λ a b. g.met.O.Number.eq_law a b g.met.O.Integral.exact_law) c.as_slice.result.now c.as_slice-2.result.now (offsets_of c.args.self.now) (offsets_of c.args.other.now) c.eq.result c.eq.ensures c.as_slice.ensures.offsets c.as_slice-2.ensures.offsets in
    record { value = d.0; lists = d.1 }
