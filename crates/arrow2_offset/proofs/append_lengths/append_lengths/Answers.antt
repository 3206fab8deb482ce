use Rattle.std.proofs.Common.{◌≤◌, ◌-◌, length, map, refl, arith, rules, vec_capacity}
use Rattle.arrow2_offset.specs.Offsets.{lengths_of}
use Rattle.arrow2_offset.proofs.Growing.{length_slots}
use Rattle.arrow2_offset.proofs.append_lengths.append_lengths.Given as given
use Rattle.arrow2_offset.proofs.append_lengths.append_lengths.Goals as goal
use Rattle.arrow2_offset.proofs.append_lengths.append_lengths.Goals.{After-replace}

-- the vector has room for the offsets of its slots
held : (g : given.Over) → (c : After-replace g) → length (lengths_of (map g.O.Number.value c.replace.result.items)) ≤ vec_capacity c.replace.result - 1
held g c =
    let v = c.args.offsets.now in
    let slots = length_slots g.O.Number.value v.items (length v.items) c.requires.valid.0 refl in
    rw c.replace.ensures.value (omega (arith, slots, v.ok.0, v.ok.1))

pub returns-then-is_err-clause-grows : goal.returns-then-is_err-clause-grows
returns-then-is_err-clause-grows g c = rw (← c.replace.ensures.value) (search (held g (goal.at.returns-then-is_err-clause-grows g c).After-replace, rules))

pub returns-else-is_err-clause-grows : goal.returns-else-is_err-clause-grows
returns-else-is_err-clause-grows g c = rw (← c.replace.ensures.value) (search (held g (goal.at.returns-else-is_err-clause-grows g c).After-replace, rules))
