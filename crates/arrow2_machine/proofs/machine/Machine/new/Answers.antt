use Rattle.std.proofs.Common.{◌≡◌, ◌∙◌, sym, rules, ◌<◌, replicate, get_or, arith}
use Rattle.std.proofs.lemmas.List.{same_lists, get_or-replicate}
use Rattle.arrow2_machine.specs.SlotValues.{Nothing}
use Rattle.arrow2_machine.proofs.machine.Machine.new.Goals as goal

pub returns : goal.returns
returns c = same_lists c.from_fn.result (replicate 16 Nothing) c.from_fn.ensures.items.long (λ k d h.
    let below : k < 16 = omega (arith, c.from_fn.ensures.items.long, h) in
    let at = c.from_fn.ensures.items.at k d below in
    let empty : get_or c.from_fn.result k d ≡ Nothing = search (rules, at.2) in
    empty ∙ sym (get_or-replicate 16 k Nothing d below))
