use Rattle.arrow2_model.specs.Lists.{items_of}
use Rattle.arrow2_bitmap.proofs.Predicates.{stated-each, if-both}
use Rattle.arrow2_bitmap.proofs.immutable.Bitmap.from_slice_with.Goals as goal

pub returns-clause-items : goal.returns-clause-items
returns-clause-items g c = λ test states. if-both c.try_from_fn.result (λ b size stated. stated-each c.args.items.now (items_of b) _ test size stated states) c.try_from_fn.ensures.len c.try_from_fn.ensures.results
