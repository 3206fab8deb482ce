use Rattle.std.proofs.Common.{◌≡◌, ◌∙◌, sym, ap, arith, length, [], append-nil}
use Rattle.std.specs.Iterator.Adapters.{zip_first, zip_second}
use Rattle.arrow2.specs.Zipped.{slot, zipped}
use Rattle.arrow2_machine.specs.Replies.{slot_word, words_text}
use Rattle.arrow2_machine.proofs.WordListLemmas.{first_written, next_written, zipped_next, ended_together}
use Rattle.arrow2_machine.proofs.replies.write_slots.Goals as goal

pub loop-len-init : goal.loop-len-init
loop-len-init c =
    let a = sym c.zip-slots.ensures.first ∙ c.in-Some.ensures.steps.0 in
    let b = sym c.zip-slots.ensures.second ∙ c.in-Some.ensures.steps.1 in
    let left = c.next.new.self in
    let slots = zipped_next c.args.lengths (zip_first left) c.args.validity (zip_second left) c.in-Some.len c.in-Some.valid a b in
    rw c.into_iter-len-iterator.ensures.into_iter_gives (record {
      so_far = first_written slot_word c.write_slot.new.out.items c.args.out.now.items (slot c.in-Some.len c.in-Some.valid) (zipped (zip_first left) (zip_second left)) (zipped c.args.lengths c.args.validity) slots c.in_ok-write_slot.ensures;
      same = omega (arith, ap length a, ap length b, c.requires);
    })

pub loop-len-preserved : goal.loop-len-preserved
loop-len-preserved c =
    let now = c.loop-len.len-iterator in
    let left = c.next-in-loop-len.new.self in
    let steps = c.in-Some-2.ensures.steps in
    let slots = zipped_next (zip_first now) (zip_first left) (zip_second now) (zip_second left) c.in-Some-2.len c.in-Some-2.valid steps.0 steps.1 in
    record {
      so_far = next_written slot_word c.write_slot-in-loop-len.new.out.items c.push.new.self.items c.loop-len.out.items (slot c.in-Some-2.len c.in-Some-2.valid) (zipped (zip_first left) (zip_second left)) (zipped (zip_first now) (zip_second now)) slots c.in_ok-push.ensures.items c.in_ok-write_slot-2.ensures ∙ c.loop-len.invariant.so_far;
      same = omega (arith, ap length steps.0, ap length steps.1, c.loop-len.invariant.same);
    }

pub returns-in_default : goal.returns-in_default
unfolding words_text
returns-in_default c =
    let slots = c.zip-slots.result in
    let first = c.zip-slots.ensures.first in
    let second = c.zip-slots.ensures.second in
    let same : length (zip_first slots) ≡ length (zip_second slots) = omega (arith, ap length first, ap length second, c.requires) in
    let none : zipped c.args.lengths c.args.validity ≡ [] = rw (← first, ← second) (ended_together (zip_first slots) (zip_second slots) same c.in_default.ensures.steps) in
    rw none c.in_ok-extend_from_slice.ensures.items

pub returns : goal.returns
returns c =
    let now = c.loop-len.len-iterator in
    let none = ended_together (zip_first now) (zip_second now) c.loop-len.invariant.same c.in-None.ensures.steps in
    sym (append-nil c.loop-len.out.items) ∙ rw none at c.loop-len.invariant.so_far
