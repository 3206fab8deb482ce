use Rattle.std.proofs.Common.{◌≡◌, ◌-◌, ◌+◌, ◌∙◌, [], false, length, sum, take, drop, get_or, ap, sym, subst, arith, IfOk, option_map}
use Rattle.arrow2_model.specs.Lists.{part}
use Rattle.arrow2_walks.specs.Zipped.{slot}
use Rattle.arrow2_offset.proofs.NestedLists.{at-cut}
use Rattle.arrow2_text.proofs.growing.Growing.copy_of.Goals as goal

pub returns-clause-ok : goal.returns-clause-ok
returns-clause-ok g c =
    let held = c.args.self.now in
    let xs = c.self.inside.values.items in
    let ns = c.self.inside.offsets.lengths in
    let k = c.args.index in
    let from = c.start_end-start.result.0 in
    let upto = c.start_end-start.result.1 in
    let all = c.as_slice.result.now in
    let n = get_or ns k 0 in
    let start : from ≡ 0 + sum (take k ns) = omega (arith, c.start_end-start.ensures.start, c.self.invariant.0) in
    let size : upto - from ≡ n = omega (arith, c.start_end-start.ensures.end) in
    let item = at-cut xs 0 ns k (omega (arith, ap (λ slots. length slots.valid) c.self.view_is, c.self.invariant.2, c.requires)) in
    let cut_out : take (upto - from) (drop from all) ≡ part all (0 + sum (take k ns)) n = ap (λ j. take j (drop from all)) size ∙ ap (λ j. take n (drop j all)) start in
    let of_values : part all (0 + sum (take k ns)) n ≡ part xs (0 + sum (take k ns)) n = ap (λ l. part l (0 + sum (take k ns)) n) c.as_slice.ensures.value in
    let held_item : part xs (0 + sum (take k ns)) n ≡ get_or held.values k [] = sym item ∙ ap (λ slots. get_or slots.values k []) c.self.view_is in
    let bytes : take (upto - from) (drop from all) ≡ get_or held.values k [] = cut_out ∙ (of_values ∙ held_item) in
    let valid = c.get.ensures ∙ ap (λ slots. get_or slots.valid k false) c.self.view_is in
    subst (λ z. IfOk c.copy_slot.result (λ item. option_map (λ value. value.items) item ≡ z)) (ap (λ l. slot l c.get.result) bytes ∙ ap (slot (get_or held.values k [])) valid) c.copy_slot.ensures.ok
