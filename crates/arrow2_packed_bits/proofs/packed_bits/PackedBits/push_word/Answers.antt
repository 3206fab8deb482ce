use Rattle.std.proofs.Common.{◌∙◌, ◌≤◌, ◌+◌, ◌-◌, ◌*◌, ◌++◌, ap, refl, arith, rules, length, take, vec_capacity, length-take-le}
use Rattle.std.proofs.lemmas.Bool.{false≢true}
use Rattle.arrow2_model.specs.Lists.{bits, unnum}
use Rattle.arrow2_model.proofs.Bits.{length-unnum}
use Rattle.arrow2_packed_bits.proofs.Buffer.{length_items, word_fits}
use Rattle.arrow2_packed_bits.proofs.WordPushes.{Hold, pushed_whole, pushed_within, last_clear}
use Rattle.arrow2_packed_bits.proofs.packed_bits.PackedBits.push_word.Goals as goal
use Rattle.arrow2_packed_bits.proofs.packed_bits.PackedBits.push_word.Goals.{After-self, then-position-eq0+in_ok-push_first, else-position-eq0+in_ok-push_first-2}

-- bits that are within the capacity have room in the vector
room : (c : After-self) → length c.args.self.now.items + length (take c.args.count (unnum 64 c.args.word)) ≤ c.args.self.now.capacity → c.self.inside.length + c.args.count ≤ 8 * vec_capacity c.self.inside.bytes
room c h =
    let b = c.self.inside in
    let size = length_items b.bytes.items b.length c.self.invariant in
    let seen = ap (λ m. length m.items) c.self.view_is in
    let spare = ap (λ m. m.capacity) c.self.view_is in
    let more = length-take-le c.args.count (unnum 64 c.args.word) (omega (arith, length-unnum 64 c.args.word, c.requires.few)) in
    omega (arith, size, seen, spare, more, h)

pub returns-in_err-push_first-clause-pushes : goal.returns-in_err-push_first-clause-pushes
returns-in_err-push_first-clause-pushes c = record {
  ok = search rules;
  succeeds = λ h. absurd (false≢true (c.in_err-push_first.ensures.succeeds (omega (arith, room (goal.at.returns-in_err-push_first-clause-pushes c).After-self h, c.bytes_for.ensures, c.self.invariant.exact))));
  capacity = omega (arith, ap (λ m. m.capacity) c.self.view_is, c.push_first.ensures.capacity);
}

pub returns-in_err-push_first-2-clause-pushes : goal.returns-in_err-push_first-2-clause-pushes
returns-in_err-push_first-2-clause-pushes c = record {
  ok = search rules;
  succeeds = λ h. absurd (false≢true (c.in_err-push_first-2.ensures.succeeds (omega (arith, room (goal.at.returns-in_err-push_first-2-clause-pushes c).After-self h, c.bytes_for-else-position-eq0.ensures, c.self.invariant.exact))));
  capacity = omega (arith, ap (λ m. m.capacity) c.self.view_is, c.push_first-else-position-eq0.ensures.capacity);
}

pub merge_bits-requires-clause-clear : goal.merge_bits-requires-clause-clear
merge_bits-requires-clause-clear c i h h' =
    let b = c.self.inside in
    last_clear b.bytes.items _ _ b.length c.index_mut-last.result.now i c.self.invariant (omega (arith, c.if-position-eq0.false)) c.in_ok-push_first-2.ensures.ok c.index_mut-last.ensures.value h h'

-- the bytes hold these items more, and the capacity is no less
pushed : (c : goal.After-self-2-1) →
    (vec_capacity c.self.inside.bytes ≤ vec_capacity c.if-position-eq0.self-inside.bytes)
    × Hold c.if-position-eq0.self-inside.bytes.items (c.if-position-eq0.self-inside.length + c.args.count) (take c.self.inside.length (bits c.self.inside.bytes.items) ++ take c.args.count (unnum 64 c.args.word))
pushed c =
    let b = c.self.inside in
    elim c.if-position-eq0.branch [
      | then-position-eq0+in_ok-push_first w ↦ rw w.self-inside-is (
        w.in_ok-push_first.ensures.capacity,
        pushed_whole b.bytes.items _ w.to_ne_bytes.result b.length c.args.count _ c.masked-word.result c.args.word
            c.self.invariant w.if-position-eq0.true c.requires.few w.bytes_for.ensures w.in_ok-push_first.ensures.ok w.to_ne_bytes.ensures.bits c.masked-word.ensures.bits
            (word_fits w.to_ne_bytes.result c.masked-word.result w.to_ne_bytes.ensures.digits (omega (arith, c.masked-word.ensures.fits))),
      )
      | else-position-eq0+in_ok-push_first-2 w ↦ rw w.self-inside-is (
        w.in_ok-push_first-2.ensures.capacity,
        pushed_within b.bytes.items _ _ w.to_ne_bytes-following.result b.length c.args.count _ c.masked-word.result w.down.result c.args.word w.merge_bits.result w.index_mut-last.result.now
            c.self.invariant (omega (arith, w.if-position-eq0.false)) c.requires.few (ap (λ k. k - 1) w.bytes_for-else-position-eq0.ensures) w.in_ok-push_first-2.ensures.ok w.to_ne_bytes-following.ensures.bits w.down.ensures.bits c.masked-word.ensures.bits
            w.index_mut-last.ensures.value w.merge_bits.ensures.kept w.merge_bits.ensures.written refl
            (word_fits w.to_ne_bytes-following.result w.down.result w.to_ne_bytes-following.ensures.digits (omega (arith, w.down.ensures.fits))) w.merge_bits.type_inv,
      )
    ]

pub invariant_of-self-2 : goal.invariant_of-self-2
invariant_of-self-2 c = (pushed c).1.0

pub returns-clause-pushes : goal.returns-clause-pushes
returns-clause-pushes c = record {
  ok = (pushed c).1.1 ∙ ap (λ m. m.items ++ take c.args.count (unnum 64 c.args.word)) c.self.view_is;
  succeeds = search rules;
  capacity = omega (arith, (pushed c).0, ap (λ m. m.capacity) c.self.view_is);
}
