use Rattle.std.proofs.Common.{◌∙◌, true, ap, refl, subst, Some}
use Rattle.std.specs.Fmt.{◌++?◌, HasWritten, debug_list}
use Rattle.arrow2_validity.specs.ItemTexts.{item_output}
use Rattle.arrow2_validity.proofs.ArrayTexts.{displays-from, shows-from, shows-then}
use Rattle.arrow2_text.specs.Binary.{binary_items}
use Rattle.arrow2_text.proofs.fmt.GenericByteArrayDebug.fmt.Goals as goal

pub returns : goal.returns
returns g c =
    let text = item_output g.T.ByteArrayType.output in
    let took = g.W.Write.write_str_gives in
    let head = g.T.ByteArrayType.head g.O.OffsetNumber.IS_LARGE in
    let items = debug_list text (binary_items c.args.self.now) in
    let f = c.args.f.now in
    let between = c.write_str.new.self in
    let end = c.write_items.new.f in
    record {
      writes = displays-from text took (Some head ++? items) f end c.write_items.result (λ ok plain.
          shows-then text took f between end (Some head) items (subst (λ bs. HasWritten took f bs between) (c.name.ensures ∙ ap g.T.ByteArrayType.head c.IS_LARGE.ensures) (c.in_ok-write_str.ensures.writes plain (refl {a = true})))
          (λ p. shows-from text took items between end c.write_items.result c.write_items.ensures ok p));
    }
