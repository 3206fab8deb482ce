use Rattle.std.proofs.Common.{◌∙◌, ap}
use Rattle.std.specs.Cmp.Lexicographic.{pointwise}
use Rattle.std.specs.Option.{option_eq}
use Rattle.arrow2_validity.proofs.Alike.{eq-compares}
use Rattle.arrow2_primitive.proofs.equal.same_each.Goals as goal

pub returns : goal.returns
returns g c =
    let E = option_eq g.T.PartialEq.eq in
    let ran = c.eq.ensures.ran in
    eq-compares (λ s. s) (λ t. t) E ran.1 ran.2 c.args.items ran.5 ran.0 ran.6 ran.3 ran.4 c.eq.result ran.8 ran.9 ran.10 ran.11
    ∙ ap (pointwise E c.args.items) ran.7
