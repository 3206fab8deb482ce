use Rattle.std.proofs.Common.{rules, ◌∙◌, ◌-◌, ◌++◌, false, length, take, replicate, ap, sym, subst, arith}
use Rattle.arrow2_model.specs.Lists.{bits}
use Rattle.arrow2_packed_bits.proofs.Buffer.{length_items}
use Rattle.arrow2_packed_bits.proofs.ConstantBytes.{falses_following, resized}
use Rattle.arrow2_packed_bits.proofs.WordPushes.{Hold}
use Rattle.arrow2_packed_bits.proofs.packed_bits.PackedBits.append_falses.Goals as goal

appended : (c : goal.After-self-1) → Hold c.resize.new.self.items c.args.total (take c.self.inside.length (bits c.self.inside.bytes.items) ++ replicate (c.args.total - length (take c.self.inside.length (bits c.self.inside.bytes.items))) false)
appended c =
    let b = c.self.inside in
    let size = length_items b.bytes.items b.length c.self.invariant in
    let seen = ap (λ m. length m.items) c.self.view_is in
    subst (λ k. Hold c.resize.new.self.items c.args.total (take b.length (bits b.bytes.items) ++ replicate (c.args.total - k) false)) (sym size) (falses_following b.bytes.items c.resize.new.self.items b.length c.args.total c.bytes_for.result c.self.invariant (omega (arith, c.requires.more, size, seen)) c.bytes_for.ensures (resized b.bytes.items c.resize.new.self.items c.bytes_for.result _ 0 c.in_ok-resize.ensures.items (omega (arith, b.bytes.ok.0)) (omega (arith, c.bytes_for.ensures, c.self.invariant.exact, c.requires.more, size, seen))))

pub invariant_of-self-2 : goal.invariant_of-self-2
invariant_of-self-2 c = (appended c).0

pub returns-clause-pushes : goal.returns-clause-pushes
returns-clause-pushes c = record {
  ok = (appended c).1 ∙ ap (λ m. m.items ++ replicate (c.args.total - length m.items) false) c.self.view_is;
  succeeds = search rules;
  capacity = omega (arith, ap (λ m. m.capacity) c.self.view_is, c.in_ok-resize.ensures.capacity);
}
