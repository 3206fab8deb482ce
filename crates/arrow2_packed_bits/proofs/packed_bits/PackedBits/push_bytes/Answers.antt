use Rattle.std.proofs.Common.{◌∙◌, ◌++◌, ◌+◌, ◌*◌, ap, arith, rules, length, take}
use Rattle.std.proofs.lemmas.Bool.{false≢true}
use Rattle.arrow2_model.specs.Lists.{bits}
use Rattle.arrow2_model.proofs.Bits.{length-bits}
use Rattle.arrow2_packed_bits.proofs.Buffer.{length_items}
use Rattle.arrow2_packed_bits.proofs.WordPushes.{Hold}
use Rattle.arrow2_packed_bits.proofs.Whole.{pushed_bytes}
use Rattle.arrow2_packed_bits.proofs.packed_bits.PackedBits.push_bytes.Goals as goal

pub returns-in_err-extend_from_slice-clause-pushes : goal.returns-in_err-extend_from_slice-clause-pushes
returns-in_err-extend_from_slice-clause-pushes c =
    let b = c.self.inside in
    let size = length_items b.bytes.items b.length c.self.invariant in
    let seen = ap (λ m. length m.items) c.self.view_is in
    let spare = ap (λ m. m.capacity) c.self.view_is in
    record {
      ok = search rules;
      succeeds = λ h. absurd (false≢true (c.in_err-extend_from_slice.ensures.succeeds (omega (arith, size, seen, spare, length-bits c.args.slice.now, b.bytes.ok.0, c.self.invariant.exact, h))));
      capacity = omega (arith, spare, c.extend_from_slice.ensures.capacity);
    }

pushed : (c : goal.After-self-1) → Hold c.extend_from_slice.new.self.items (c.self.inside.length + 8 * length c.args.slice.now) (take c.self.inside.length (bits c.self.inside.bytes.items) ++ bits c.args.slice.now)
pushed c =
    let b = c.self.inside in
    let size = length_items b.bytes.items b.length c.self.invariant in
    let seen = ap (λ m. length m.items) c.self.view_is in
    pushed_bytes b.bytes.items c.extend_from_slice.new.self.items c.args.slice.now b.length c.self.invariant (λ some. omega (arith, c.requires.whole some, size, seen)) c.in_ok-extend_from_slice.ensures.items (λ k. (c.type_inv.slice k).fits)

pub invariant_of-self-2 : goal.invariant_of-self-2
invariant_of-self-2 c = (pushed c).0

pub returns-clause-pushes : goal.returns-clause-pushes
returns-clause-pushes c = record {
  ok = (pushed c).1 ∙ ap (λ m. m.items ++ bits c.args.slice.now) c.self.view_is;
  succeeds = search rules;
  capacity = omega (arith, ap (λ m. m.capacity) c.self.view_is, c.in_ok-extend_from_slice.ensures.capacity);
}
