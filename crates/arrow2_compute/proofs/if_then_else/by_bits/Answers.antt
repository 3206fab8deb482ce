use Rattle.std.proofs.Common.{◌∙◌, ap}
use Rattle.arrow2_validity.specs.OptionalValidity.{valid_items}
use Rattle.arrow2_validity.proofs.ValidItems.{items-some}
use Rattle.arrow2_compute.proofs.if_then_else.by_bits.Goals as goal

pub returns-clause-items : goal.returns-clause-items
returns-clause-items c = ap valid_items c.new.ensures.value ∙ items-some _ c.args.bits
