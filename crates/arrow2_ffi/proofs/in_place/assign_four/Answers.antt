use Rattle.std.proofs.Common.{[], ◌∷◌, rules}
use Rattle.arrow2_ffi.specs.Ranges.{first_bits}
use Rattle.arrow2_ffi.proofs.in_place.assign_four.Goals as goal

pub returns : goal.returns
returns c = record {
  items = c.assign_rows.ensures.table c.args.t (first_bits c.args.second c.args.len ∷ first_bits c.args.third c.args.len ∷ first_bits c.args.fourth c.args.len ∷ []) (search rules) (search rules);
  canonical = c.assign_rows.ensures.canonical;
}
