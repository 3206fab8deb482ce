use Rattle.std.proofs.Common.{rules, ◌∙◌, ◌-◌, ◌++◌, true, length, take, replicate, ap, sym, arith}
use Rattle.arrow2_model.specs.Lists.{bits}
use Rattle.arrow2_packed_bits.proofs.Buffer.{length_items}
use Rattle.arrow2_packed_bits.proofs.ConstantBytes.{trues_following, resized}
use Rattle.arrow2_packed_bits.proofs.packed_bits.PackedBits.append_trues.Goals as goal

pub returns-clause-pushes : goal.returns-clause-pushes
returns-clause-pushes c =
    let b = c.self.inside in
    let size = length_items b.bytes.items b.length c.self.invariant in
    let seen = ap (λ m. length m.items) c.self.view_is in
    let items = trues_following b.bytes.items c.resize.new.self.items c.set_above.new.bytes.items b.length c.args.total c.bytes_for.result c.self.invariant (omega (arith, c.requires.more, size, seen)) c.bytes_for.ensures (resized b.bytes.items c.resize.new.self.items c.bytes_for.result _ 255 c.in_ok-resize.ensures.items (omega (arith, b.bytes.ok.0)) (omega (arith, c.bytes_for.ensures, c.self.invariant.exact, c.requires.more, size, seen))) c.set_above.ensures.len c.set_above.ensures.kept c.set_above.ensures.written in
    record {
      ok =
          c.cut.ensures.items ∙ (items ∙ (ap (λ k. take b.length (bits b.bytes.items) ++ replicate (c.args.total - k) true) (sym size)
          ∙ ap (λ m. m.items ++ replicate (c.args.total - length m.items) true) c.self.view_is));
      succeeds = search rules;
      capacity = omega (arith, ap (λ m. m.capacity) c.self.view_is, c.in_ok-resize.ensures.capacity, c.set_above.ensures.capacity, c.cut.ensures.capacity);
    }
