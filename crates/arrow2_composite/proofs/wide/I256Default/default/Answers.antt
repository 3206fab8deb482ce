use Rattle.std.proofs.Common.{refl}
use Rattle.arrow2_model.specs.Digits.{words_value}
use Rattle.arrow2_composite.proofs.wide.I256Default.default.Goals as goal

pub returns : goal.returns
unfolding words_value
returns c = refl
