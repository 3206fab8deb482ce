use Rattle.std.proofs.Common.{ap, get_or, refl, arith}
use Rattle.arrow2_model.specs.Lists.{buffer_items}
use Rattle.arrow2_offset.specs.Offsets.{lengths_of}
use Rattle.arrow2_text.proofs.SameSlots.{parts-alike, parts-differ}
use Rattle.arrow2_text.proofs.slots.Slots.same_lengths.Goals as goal

pub returns-then-to-from : goal.returns-then-to-from
returns-then-to-from g c =
    let mine = lengths_of (buffer_items c.args.self.now.offsets) in
    let others = lengths_of (buffer_items c.args.other.now.offsets) in
    let here = ap (λ a. get_or (lengths_of (buffer_items a.offsets)) c.loop-index.index 0) c.self.view_is in
    let other-here = ap (λ a. get_or (lengths_of (buffer_items a.offsets)) c.loop-index.index 0) c.other.view_is in
    (λ no. cc, λ same. absurd (parts-differ mine others c.args.start c.args.len c.loop-index.index (omega (arith, c.loop-index.auto)) (omega (arith, c.loop-index-test.true)) (λ e. omega (arith, e, c.if-to-from.true, here, other-here, c.start_end-from.ensures.end, c.start_end-other_from.ensures.end)) same))

pub returns : goal.returns
returns g c =
    let mine = lengths_of (buffer_items c.args.self.now.offsets) in
    let others = lengths_of (buffer_items c.args.other.now.offsets) in
    (λ yes. parts-alike mine others c.args.start c.args.len (omega (arith, c.requires.mine, c.len.ensures.items, c.len.ensures.lengths)) (omega (arith, c.requires.others, c.len-2.ensures.items, c.len-2.ensures.lengths)) (λ k from to. c.loop-index.invariant k from (omega (arith, to, c.loop-index-test.false, c.loop-index.auto))), λ same. refl)
