use Rattle.std.proofs.lemmas.Cmp.{nat_list_cmp_total}
use Rattle.std.specs.Option.{option_copied}
use Rattle.std.specs.Ordering.{is_ge}
use Rattle.arrow2_text.specs.Binary.{binary_items}
use Rattle.arrow2_walks.specs.Selections.{non_null_values}
use Rattle.arrow2_numeric.proofs.Best.{greatest-of_all}
use Rattle.arrow2_compute.proofs.Extremes.{by-comparisons}
use Rattle.arrow2_compute.proofs.aggregate.max_binary.Goals as goal

pub returns : goal.returns
returns g c =
    let values = non_null_values (binary_items c.args.array.now) in
    let best = option_copied c.best_item.result in
    by-comparisons values best is_ge (greatest-of_all nat_list_cmp_total values best c.best_item.ensures)
