use Rattle.std.proofs.Common.{Some, not, map, ap, ◌∙◌}
use Rattle.std.proofs.lemmas.Simd.{map-map}
use Rattle.arrow2_compute.proofs.boolean.is_null.Goals as goal

pub returns-clause-items : goal.returns-clause-items
returns-clause-items g c =
    c.new.ensures.items ∙ (ap (map (λ v. Some v)) (c.in_ok-nulls.ensures.items ∙ ap (map not) c.known_validity.ensures.items) ∙ map-map (λ v. Some v) not (g.A.Nullable.known c.args.array.now))
