use Rattle.std.proofs.Common.{◌≡◌, ℕ, Bool, ◌≤◌, length, take, drop}
use Rattle.arrow2_datatypes.specs.declared.field.Field.{Field}
use Rattle.arrow2_datatypes.specs.Filter.{ReturnsOnFields, filter_indexed}
use Rattle.arrow2_datatypes.proofs.schema.Schema.filter.Given as goal

abbrev pub invariant-loop-index : goal.invariant-loop-index
invariant-loop-index g l =
    (l.kept ≤ l.index)
    × (length l.fields.items ≡ length l.fn.self.fields.items)
    × (drop l.index l.fields.items ≡ drop l.index l.fn.self.fields.items)
    × ((accepts : ℕ → Field → Bool) → ReturnsOnFields l.fn.self.fields.items (goal.F-post g l.predicate) accepts → take l.kept l.fields.items ≡ filter_indexed accepts (take l.index l.fn.self.fields.items))
