use Rattle.arrow2_model.specs.Lists.{buffer_items}
use Rattle.arrow2_offset.specs.Offsets.{offsets_list, start_of, lengths_of}
use Rattle.arrow2_offset.proofs.Same.{numbers_same, spelled_same}
use Rattle.arrow2_offset.proofs.immutable.OffsetsBufferPartialEq.eq.Goals as goal

pub returns : goal.returns
returns g c =
    let own = buffer_items c.args.self.now in
    let others = buffer_items c.args.other.now in
    let a = c.as_slice.ensures in
    let b = c.as_slice-2.ensures in
    let d = numbers_same g.O.Number.value g.O.PartialEq.eq (λ x y. g.met.O.Number.eq_law x y g.met.O.Integral.exact_law) c.as_slice.result.now c.as_slice-2.result.now own others c.eq.result c.eq.ensures a.offsets b.offsets in
    record {
      value = d.0;
      lists = d.1;
      by_lengths = spelled_same g.O.Number.value g.O.PartialEq.eq (λ x y. g.met.O.Number.eq_law x y g.met.O.Integral.exact_law) c.as_slice.result.now c.as_slice-2.result.now own others (offsets_list (start_of own) (lengths_of own)) (offsets_list (start_of others) (lengths_of others)) c.eq.result c.eq.ensures a.offsets a.by_lengths b.offsets b.by_lengths;
    }
