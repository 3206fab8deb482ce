use Rattle.std.proofs.Common.{◌≡◌, ◌∙◌, ◌-◌, ap, subst, arith, rules, length, map, refl, true, pos, ◌<ℤ◌}
use Rattle.std.proofs.lemmas.Bool.Decides.{nat_tests}
use Rattle.std.proofs.lemmas.List.{length-map}
use Rattle.arrow2_offset.specs.Offsets.{AreOffsets, last_of}
use Rattle.arrow2_offset.proofs.Appending.{value_last, value_natural}
use Rattle.arrow2_offset.proofs.Order.{lt_stated, offsets_stated}
use Rattle.arrow2_offset.proofs.check.broken_rule.Given as given
use Rattle.arrow2_offset.proofs.check.broken_rule.Goals as goal
use Rattle.arrow2_offset.proofs.check.broken_rule.Goals.{After-index-offsets-offsets}

-- the numbers are offsets, once the first is not negative and they rise
rising : (g : given.Over) → (c : After-index-offsets-offsets g) → AreOffsets (map g.O.Number.value c.args.offsets.now)
rising g c =
    let v = g.O.Number.value in
    let items = c.args.offsets.now in
    let zero : v c.usize_as.result ≡ pos 0 = c.usize_as.ensures in
    let some : length items ≡ 0 → ⊥ = λ e. grind (arith, nat_tests) in
    let stated = lt_stated v g.O.PartialOrd.partial_cmp _ _ c.lt.result (g.met.O.Number.order_law _ _ g.met.O.Integral.exact_law) c.lt.ensures in
    let natural : v c.index-offsets-0.result <ℤ pos 0 → ⊥ = λ h. let e : c.lt.result ≡ true = stated.1 (rw zero h) in let no : ⊥ = cc in no in
    let up : c.is_rising.result ≡ true = search rules in
    offsets_stated v items c.index-offsets-0.result some c.index-offsets-0.is natural (c.is_rising.ensures.0 up)

pub as_usize-last-requires : goal.as_usize-last-requires
as_usize-last-requires g c =
    let v = g.O.Number.value in
    let items = c.args.offsets.now in
    let are = rising g c in
    value_natural v items c.index-offsets-offsets.result (length items - 1) are (omega (arith, are.some, length-map items v)) c.index-offsets-offsets.is

pub returns-clause-none : goal.returns-clause-none
returns-clause-none g c =
    let v = g.O.Number.value in
    let items = c.args.offsets.now in
    let are = rising g (goal.at.returns-clause-none g c).After-index-offsets-offsets in
    let last : v c.index-offsets-offsets.result ≡ pos (last_of (map v items)) = value_last v items c.index-offsets-offsets.result (length items) are refl c.index-offsets-offsets.is in
    let fits = subst g.O.Number.fits last c.as_usize-last.ensures.fits in
    (are, (g.met.O.OffsetNumber.max_law (last_of (map v items))).0 fits)
