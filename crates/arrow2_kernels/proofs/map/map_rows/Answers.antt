use Rattle.std.proofs.Common.{◌∙◌, ℕ, List, ap, take, arith, rules}
use Rattle.arrow2_model.specs.Lists.{bits}
use Rattle.arrow2_kernels.proofs.VectorWrites.{whole_written}
use Rattle.arrow2_kernels.proofs.map.map_rows.Goals as goal

pub returns-clause-items : goal.returns-clause-items
returns-clause-items g c f is =
    let v = c.in_ok-bytes.bytes in
    let whole = whole_written v.items c.write_rows.new.bytes v.len (search rules) (omega (arith, c.write_rows.auto.bytes, c.as_mut_slice.ensures.len)) in
    ap (λ (b : List ℕ). take c.args.len (bits b)) whole ∙ c.write_rows.ensures.items f is

pub returns-clause-results : goal.returns-clause-results
returns-clause-results g c =
    let v = c.in_ok-bytes.bytes in
    let are = c.write_rows.ensures.results in
    let whole = whole_written v.items c.write_rows.new.bytes v.len (search rules) (omega (arith, c.write_rows.auto.bytes, c.as_mut_slice.ensures.len)) in
    (are.0, are.1, ap (λ (b : List ℕ). take c.args.len (bits b)) whole ∙ are.2)
