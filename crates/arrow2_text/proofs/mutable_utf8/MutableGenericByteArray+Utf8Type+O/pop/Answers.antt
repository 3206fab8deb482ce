use Rattle.std.specs.Prelude.{string_bytes}
use Rattle.arrow2_text.proofs.GrowthItems.{pops-as, failed-through}
use Rattle.arrow2_text.proofs.mutable_utf8.MutableGenericByteArray+Utf8Type+O.pop.Goals as goal

pub returns : goal.returns
returns g c = pops-as (λ value. value.items) string_bytes c.args.self.now c.pop_bytes.new.self c.in_ok-item.item c.as_texts.result c.as_texts.ensures c.in_ok-item.ensures.popped

pub returns-in_err-item : goal.returns-in_err-item
returns-in_err-item g c = failed-through (λ value. value.items) string_bytes c.args.self.now c.pop_bytes.new.self c.in_err-item.field-0.0 c.from_residual.result c.from_residual.ensures c.in_err-item.ensures.popped
