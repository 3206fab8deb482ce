use Rattle.std.proofs.Common.{ap, ◌∙◌}
use Rattle.arrow2_datatypes.specs.Types.{physical}
use Rattle.arrow2_text.proofs.GrowingValues.{last-value, left-values}
use Rattle.arrow2_text.proofs.GrowthItems.{pops-items}
use Rattle.arrow2_text.proofs.mutable_generic_byte_array.MutableGenericByteArray.pop_bytes.Goals as goal

pub returns-clause-popped : goal.returns-clause-popped
returns-clause-popped g c = rw (← c.self.view_is) (pops-items (λ value. value.items) c.self.inside.slots c.pop.new.self c.pop.result c.pop.ensures)

pub returns-clause-known : goal.returns-clause-known
returns-clause-known g c = last-value g.T.ByteArrayType.IsValue (λ value. value.items) c.self.inside.slots c.pop.new.self c.pop.result c.pop.ensures c.self.invariant.1

pub invariant_of-self : goal.invariant_of-self
invariant_of-self g c = (
  ap physical c.pop.ensures.data_type ∙ c.self.invariant.0,
  left-values g.T.ByteArrayType.IsValue (λ value. value.items) c.self.inside.slots c.pop.new.self c.pop.result c.pop.ensures c.self.invariant.1,
)
