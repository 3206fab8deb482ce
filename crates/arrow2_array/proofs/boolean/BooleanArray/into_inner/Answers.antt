use Rattle.std.proofs.Common.{length, sym, ◌∙◌}
use Rattle.arrow2_model.specs.Lists.{items_of}
use Rattle.arrow2_array.proofs.Items.{length-bitmap}
use Rattle.arrow2_array.proofs.boolean.BooleanArray.into_inner.Goals as goal

pub returns-clause-same_length : goal.returns-clause-same_length
returns-clause-same_length c = λ b is. length-bitmap c.self.inside.validity (length (items_of c.self.inside.values)) b c.self.invariant (sym c.into_bitmap.ensures ∙ is)
