use Rattle.std.proofs.Common.{◌<◌, true, arith, get_or, length, refl, Ok, None}
use Rattle.std.specs.Fmt.{debug_list}
use Rattle.arrow2_validity.specs.ItemTexts.{item_output}
use Rattle.arrow2_validity.proofs.ArrayTexts.{all-shown, displays-from, item-shown, none-shown, shows-from}
use Rattle.arrow2_text.specs.Binary.{binary_items}
use Rattle.arrow2_text.proofs.fmt.write_items.Goals as goal

pub loop-position-init : goal.loop-position-init
loop-position-init g c = none-shown (item_output g.T.ByteArrayType.output) g.W.Write.write_str_gives (binary_items c.args.array.now) c.args.f.now c.write_str.new.self (λ plain. c.in_ok-write_str.ensures.writes plain (refl {a = true}))

pub loop-position-preserved : goal.loop-position-preserved
loop-position-preserved g c = λ plain.
    let text = item_output g.T.ByteArrayType.output in
    let took = g.W.Write.write_str_gives in
    let items = binary_items c.args.array.now in
    let i = c.loop-position.position in
    let below : i < length items = omega (arith, c.loop-position-test.true, c.len-position-end.ensures) in
    let item = rw c.get_bytes.ensures.value at c.in_ok-write_item.ensures in
    item-shown text took items i None c.args.f.now c.loop-position.f c.write_separator.new.f c.write_item.new.f below (c.loop-position.invariant plain)
    (λ p. c.in_ok-write_separator.ensures p (refl {a = true})) (shows-from text took (text (get_or items i None)) c.write_separator.new.f c.write_item.new.f (Ok c.in_ok-write_item.field-0) item (refl {a = true}))

pub returns : goal.returns
returns g c =
    let text = item_output g.T.ByteArrayType.output in
    let took = g.W.Write.write_str_gives in
    let items = binary_items c.args.array.now in
    displays-from text took (debug_list text items) c.args.f.now c.write_str-2.new.self c.write_str-2.result
    (λ ok plain. all-shown text took items c.loop-position.position c.args.f.now c.loop-position.f c.write_str-2.new.self (omega (arith, c.loop-position-test.false, c.len-position-end.ensures)) (c.loop-position.invariant plain) (λ p. c.write_str-2.ensures.writes p ok))
