use Rattle.std.proofs.Common.{◌∙◌, ◌≤◌, ◌<◌, ◌+◌, ◌^◌, [], ◌∷◌, ◌++◌, ap, take, refl, arith, rules, vec_capacity, length}
use Rattle.arrow2_model.specs.Lists.{bits}
use Rattle.arrow2_packed_bits.proofs.Buffer.{length_items, push_byte, push_position}
use Rattle.arrow2_packed_bits.proofs.WordPushes.{Hold}
use Rattle.arrow2_packed_bits.proofs.packed_bits.PackedBits.push.Goals as goal
use Rattle.arrow2_packed_bits.proofs.packed_bits.PackedBits.push.Goals.{then-position-eq0+in_ok-push, else-position-eq0}

-- the bytes hold one item more, and the capacity is no less
pushed : (c : goal.After-self-2-1) →
    (vec_capacity c.self.inside.bytes ≤ vec_capacity c.if-position-eq0.self-inside.bytes)
    × Hold c.if-position-eq0.self-inside.bytes.items (c.if-position-eq0.self-inside.length + 1) (take c.self.inside.length (bits c.self.inside.bytes.items) ++ c.args.item ∷ [])
pushed c =
    let b = c.self.inside in
    elim c.if-position-eq0.branch [
      | then-position-eq0+in_ok-push w ↦ rw w.self-inside-is (
        w.in_ok-push.ensures.capacity,
        push_byte b.bytes.items w.push.new.self.items b.length w.from.result c.args.item c.self.invariant w.if-position-eq0.true w.in_ok-push.ensures.items w.from.ensures,
      )
      | else-position-eq0 w ↦ rw w.self-inside-is (
        omega arith,
        push_position b.bytes.items _ b.length w.len-last.result w.index_mut.result.now w.from-else-position-eq0.result c.args.item c.self.invariant (omega (arith, w.if-position-eq0.false)) (w.len-last.ensures ∙ search rules) w.index_mut.ensures.value w.from-else-position-eq0.ensures refl,
      )
    ]

pub invariant_of-self-2 : goal.invariant_of-self-2
invariant_of-self-2 c = (pushed c).1.0

pub returns : goal.returns
returns c =
    let b = c.self.inside in
    let size = length_items b.bytes.items b.length c.self.invariant ∙ refl in
    let seen = ap (λ m. length m.items) c.self.view_is in
    let short : length c.args.self.now.items + 1 < 2 ^ 64 = omega (arith, size, seen, c.if-self.false, c.self.ranges) in
    record {
      ok = (pushed c).1.1 ∙ ap (λ m. m.items ++ c.args.item ∷ []) c.self.view_is;
      err = search rules;
      fits = omega (arith, short);
      within_capacity = omega (arith, size, seen, c.self.invariant.exact, c.self.inside.bytes.ok.0, c.self.inside.bytes.ok.1, c.self.ranges, ap (λ m. m.capacity) c.self.view_is);
      overflow = (search rules, λ h. absurd (omega (arith, short, h)));
      only = search rules;
      succeeds = search rules;
      capacity = omega (arith, (pushed c).0, ap (λ m. m.capacity) c.self.view_is);
    }
