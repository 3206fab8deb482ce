use Rattle.std.proofs.Common.{◌∙◌, [], ◌∷◌, ap, sym, rules}
use Rattle.std.proofs.lemmas.Result.{IfOk-weaker}
use Rattle.arrow2_model.specs.Lists.{items_of}
use Rattle.arrow2_model.specs.Tables.{each}
use Rattle.arrow2_bitmap.proofs.Lanes.{shown_items, shown_length}
use Rattle.arrow2_bitmap.proofs.PackedBitmaps.{packed_bytes}
use Rattle.arrow2_bitmap.proofs.bitmap_ops.unary_table.Goals as goal

pub returns-in_ok-results-clause-items : goal.returns-in_ok-results-clause-items
returns-in_ok-results-clause-items c =
    let shown = c.as_slice-offset.result in
    let own = shown_items shown.0.now (items_of c.args.lhs.now) shown.1 shown.2 c.if-offset-eq0.true c.as_slice-offset.ensures.items in
    IfOk-weaker c.from_u8_vec.result _ _ (λ b e. e ∙ (c.in_ok-results.ensures.items ∙ ap (λ xs. each c.args.t (xs ∷ [])) own)) c.from_u8_vec.ensures.items

pub returns-in_ok-results-clause-made : goal.returns-in_ok-results-clause-made
returns-in_ok-results-clause-made c =
    let shown = c.as_slice-offset.result in
    record {
      len = IfOk-weaker c.from_u8_vec.result _ _ (λ b e. e ∙ sym (shown_length shown.0.now (items_of c.args.lhs.now) shown.1 shown.2 c.as_slice-offset.ensures.inside c.as_slice-offset.ensures.items)) c.from_u8_vec.ensures.len;
      storage = IfOk-weaker c.from_u8_vec.result _ _ (packed_bytes c.in_ok-results.results.items shown.2 c.in_ok-results.ensures.canonical) c.from_u8_vec.ensures.ok;
      only = search rules;
    }
