use Rattle.std.proofs.Common.{◌≡◌, [], ◌∷◌, ◌++◌, ap, sym, ◌∙◌, rules}
use Rattle.arrow2_walks.specs.Zipped.{zipped}
use Rattle.arrow2_primitive.proofs.Growing.{pop-zipped}
use Rattle.arrow2_primitive.proofs.mutable.MutablePrimitiveArray.pop.Goals as goal

pub returns-clause-last : goal.returns-clause-last
returns-clause-last g c =
    let values : c.self.inside.values.items ≡ c.pop.new.self.items ++ c.in_ok-value.value ∷ [] = search rules in
    let validity : c.self.inside.validity.items ≡ c.pop-2.new.self.items ++ c.in_ok-is_valid.is_valid ∷ [] = c.in_ok-is_valid.ensures.last in
    let items = pop-zipped c.self.inside.values.items c.pop.new.self.items c.self.inside.validity.items c.pop-2.new.self.items c.in_ok-value.value c.in_ok-is_valid.is_valid values validity c.self.invariant.0 in
    ap (λ a. a.items) (sym c.self.view_is) ∙ (items ∙ ap (λ item. zipped c.pop.new.self.items c.pop-2.new.self.items ++ item ∷ []) (sym c.then_some.ensures))
