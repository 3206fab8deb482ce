use Rattle.arrow2_primitive.specs.Primitive.{primitive_items}
use Rattle.arrow2_numeric.specs.Casts.{not_fitting_message}
use Rattle.arrow2_numeric.proofs.Casts.{same-numbers, if-ok, if-err, out_of_memory}
use Rattle.arrow2_numeric.proofs.cast.try_primitive_to_primitive.Goals as goal

pub returns-clause-items : goal.returns-clause-items
returns-clause-items g c =
    if-ok c.primitive_to_primitive.result
    (λ a h. same-numbers g.I.Number.value g.O.Number.value g.O.Number.fits (primitive_items c.args.array.now) (primitive_items a) c.in_ok-check_fits.ensures.accepted h)
    c.primitive_to_primitive.ensures.items

pub returns-clause-rejected : goal.returns-clause-rejected
returns-clause-rejected g c =
    if-err c.primitive_to_primitive.result (λ e is index first. out_of_memory e (not_fitting_message index) is) c.primitive_to_primitive.ensures.only
