use Rattle.std.proofs.Common.{rules}
use Rattle.std.proofs.lemmas.Slice.Eq.{slice_eq-Decides}
use Rattle.arrow2_model.specs.Lists.{buffer_items}
use Rattle.arrow2_buffer.proofs.immutable.BufferPartialEq.eq.Goals as goal

pub returns-clause-same : goal.returns-clause-same
returns-clause-same g c = λ items. slice_eq-Decides items (buffer_items c.args.self.now) (buffer_items c.args.other.now) c.eq.result (search rules)
