use Rattle.std.proofs.Common.{◌∙◌, ◌++◌, ◌/◌, ◌%◌, ◌+◌, List, Bool, ℕ, ap, arith, rules}
use Rattle.arrow2_packed_bits.proofs.Whole.{pushed_in_two}
use Rattle.arrow2_model.proofs.Cursors.{length-part_bits}
use Rattle.arrow2_packed_bits.proofs.packed_bits.PackedBits.extend_from_slice.Goals as goal

pub returns : goal.returns
returns c =
    let offset : ℕ = c.args.offset in
    let head : ℕ = c.min-head.result in
    let first = c.in_ok-push_words.ensures.ok ∙ ap (λ (items : List Bool). items ++ c.new.result.items) c.reserve.ensures.items in
    let size = length-part_bits c.args.slice.now offset c.args.count c.requires.inside in
    record {
      ok = pushed_in_two c.args.slice.now c.args.self.now.items c.push_words.new.self.items c.push_part.new.self.items c.new.result.items offset c.args.count head (offset / 8) (offset % 8 + head)
          (omega (arith, c.min-head.ensures)) (omega (arith, c.requires.inside)) (omega arith) c.new.ensures.items first c.in_ok-push_part.ensures.ok;
      err = search rules;
      fits = c.reserve.ensures.fits;
      within_capacity = c.reserve.ensures.within_capacity;
      overflow = rw size c.in_ok-reserve.ensures.overflow;
      only = search rules;
      succeeds = search rules;
      capacity = omega (arith, c.reserve.ensures.capacity, c.push_words.ensures.capacity, c.push_part.ensures.capacity);
    }
