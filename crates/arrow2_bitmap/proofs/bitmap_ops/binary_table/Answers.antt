use Rattle.std.proofs.Common.{◌∙◌, ◌≡◌, ℕ, List, [], ◌∷◌, Bool, ap, sym, take, arith, rules}
use Rattle.std.proofs.lemmas.Result.{IfOk-weaker}
use Rattle.arrow2_model.specs.Lists.{bits, items_of}
use Rattle.arrow2_model.specs.Tables.{each}
use Rattle.arrow2_bitmap.proofs.Lanes.{shown_items, shown_length}
use Rattle.arrow2_bitmap.proofs.PackedBitmaps.{packed_bytes}
use Rattle.arrow2_bitmap.proofs.bitmap_ops.binary_table.Goals as goal

pub returns-in_ok-results-clause-items : goal.returns-in_ok-results-clause-items
returns-in_ok-results-clause-items c =
    let l = c.as_slice-left_offset.result in
    let r = c.as_slice-right_offset.result in
    let a : List Bool = items_of c.args.lhs.now in
    let b : List Bool = items_of c.args.rhs.now in
    let ll = shown_length l.0.now a l.1 l.2 c.as_slice-left_offset.ensures.inside c.as_slice-left_offset.ensures.items in
    let lr = shown_length r.0.now b r.1 r.2 c.as_slice-right_offset.ensures.inside c.as_slice-right_offset.ensures.items in
    let same_lengths : l.2 ≡ r.2 = sym ll ∙ (c.requires.same_length ∙ lr) in
    let own = shown_items l.0.now a l.1 l.2 (omega (arith, c.if-left_offset-eq0.true)) c.as_slice-left_offset.ensures.items in
    let paired = ap (λ (n : ℕ). take n (bits r.0.now)) same_lengths ∙ shown_items r.0.now b r.1 r.2 (omega (arith, c.if-right_offset-eq0.true)) c.as_slice-right_offset.ensures.items in
    IfOk-weaker c.from_u8_vec.result _ _
    (λ m e. e ∙ (c.in_ok-results.ensures.items ∙ (ap (λ xs. each c.args.t (xs ∷ take l.2 (bits r.0.now) ∷ [])) own ∙ ap (λ ys. each c.args.t (a ∷ ys ∷ [])) paired)))
    c.from_u8_vec.ensures.items

pub returns-in_ok-results-clause-made : goal.returns-in_ok-results-clause-made
returns-in_ok-results-clause-made c =
    let l = c.as_slice-left_offset.result in
    record {
      len = IfOk-weaker c.from_u8_vec.result _ _ (λ b e. e ∙ sym (shown_length l.0.now (items_of c.args.lhs.now) l.1 l.2 c.as_slice-left_offset.ensures.inside c.as_slice-left_offset.ensures.items)) c.from_u8_vec.ensures.len;
      storage = IfOk-weaker c.from_u8_vec.result _ _ (packed_bytes c.in_ok-results.results.items l.2 c.in_ok-results.ensures.canonical) c.from_u8_vec.ensures.ok;
      only = search rules;
    }

pub map_binary-requires-clause-right : goal.map_binary-requires-clause-right
map_binary-requires-clause-right c =
    let l = c.as_slice-left_offset.result in
    let r = c.as_slice-right_offset.result in
    let ll = shown_length l.0.now (items_of c.args.lhs.now) l.1 l.2 c.as_slice-left_offset.ensures.inside c.as_slice-left_offset.ensures.items in
    let lr = shown_length r.0.now (items_of c.args.rhs.now) r.1 r.2 c.as_slice-right_offset.ensures.inside c.as_slice-right_offset.ensures.items in
    omega (arith, ll, lr, c.requires.same_length, c.as_slice-right_offset.ensures.inside)
