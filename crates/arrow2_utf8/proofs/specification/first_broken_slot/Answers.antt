use Rattle.std.proofs.Common.{◌<◌, ◌≤◌, length, map, drop, [], sym, refl, arith, IsUtf8}
use Rattle.std.proofs.lemmas.List.{take_all, length-map}
use Rattle.std.proofs.lemmas.List.Elements.{All-more, All-same}
use Rattle.arrow2_offset.specs.Offsets.{start_of, lengths_of}
use Rattle.arrow2_offset.proofs.NestedLists.{length-cut}
use Rattle.arrow2_offset.proofs.OffsetLists.{length-lengths_of}
use Rattle.arrow2_utf8.specs.Texts.{slot_values}
use Rattle.arrow2_utf8.proofs.specification.first_broken_slot.Goals as goal

pub loop-slot-preserved : goal.loop-slot-preserved
loop-slot-preserved g c =
    let xs = map g.O.Number.value c.args.offsets.now in
    let texts = slot_values xs c.args.values.now in
    let n = length-cut (drop (start_of xs) c.args.values.now) (lengths_of xs) in
    let l = length-lengths_of xs c.requires.valid in
    let m = length-map c.args.offsets.now g.O.Number.value in
    let h : c.loop-slot.slot < length texts = omega (arith, n, l, m, c.loop-slot-test.true) in
    All-more IsUtf8 texts c.loop-slot.slot [] h c.loop-slot.invariant (rw (← c.slot_of.ensures) (c.if-not-is_text.ensures.0 refl))

pub returns : goal.returns
returns g c =
    let xs = map g.O.Number.value c.args.offsets.now in
    let texts = slot_values xs c.args.values.now in
    let n = length-cut (drop (start_of xs) c.args.values.now) (lengths_of xs) in
    let l = length-lengths_of xs c.requires.valid in
    let m = length-map c.args.offsets.now g.O.Number.value in
    let all : length texts ≤ c.loop-slot.slot = omega (arith, n, l, m, c.loop-slot-test.false) in
    All-same IsUtf8 texts _ (sym (take_all c.loop-slot.slot texts all)) c.loop-slot.invariant
