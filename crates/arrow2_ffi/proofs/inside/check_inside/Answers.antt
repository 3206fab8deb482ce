use Rattle.std.proofs.Common.{◌≡◌, ◌∙◌, inl, inr, ℕ, ◌+◌, ◌<◌, List, [], ◌∷◌, length, map, sym, refl, arith, ℤ, pos, negsuc, ◌<ℤ◌, ◌≤ℤ◌, slice_index_or}
use Rattle.std.proofs.lemmas.Bool.{cases_lt}
use Rattle.std.proofs.lemmas.Int.{ints}
use Rattle.arrow2_offset.specs.Offsets.{AreOffsets}
use Rattle.arrow2_offset.specs.Failures.{first_broken_rule}
use Rattle.arrow2_offset.proofs.Order.{offsets_stated}
use Rattle.arrow2_ffi.specs.declared.codes.TheConstants.{ARROW2_SPEC_FALLING}
use Rattle.arrow2_ffi.specs.Rules.{rule_code}
use Rattle.arrow2_ffi.proofs.inside.check_inside.Goals as goal

not_negative : (y : ℤ) (ys : List ℤ) → rule_code (first_broken_rule (y ∷ ys)) ≡ ARROW2_SPEC_FALLING → y <ℤ pos 0 → ⊥
not_negative (pos n) ys e h = omega (arith, ints, h)
not_negative (negsuc n) ys e h = omega (arith, e)

-- numbers that break no earlier rule, and that never decrease, are offsets
none_falls : {X : Type 0} (value : X → ℤ) (items : List X) → rule_code (first_broken_rule (map value items)) ≡ ARROW2_SPEC_FALLING → ((k : ℕ) → k + 1 < length items → slice_index_or (map value items) k (pos 0) ≤ℤ slice_index_or (map value items) (k + 1) (pos 0)) → AreOffsets (map value items)
none_falls value [] e up = absurd (omega (arith, e))
none_falls value (x ∷ items) e up = offsets_stated value (x ∷ items) x (λ none. omega (arith, none)) refl (not_negative (value x) (map value items) e) up

pub returns-then-code-eq-ARROW2_SPEC_FALLING : goal.returns-then-code-eq-ARROW2_SPEC_FALLING
returns-then-code-eq-ARROW2_SPEC_FALLING g c =
    let v = g.O.Number.value in
    let items = c.args.offsets.now in
    let stated = c.in-Some.ensures.some in
    let is = c.if-code-eq-ARROW2_SPEC_FALLING.true in
    let inside : c.first_falling.result < length items =
    elim (cases_lt c.first_falling.result (length items)) [
      | inl low ↦ low
      | inr all ↦ absurd (stated.broken (none_falls v items (sym stated.rule ∙ is) (λ k h. c.first_falling.ensures.before k (omega (arith, h, all)))))
    ] in
    record {
      ok = (λ e. absurd (stated.other e), λ h. absurd (stated.broken h.0));
      broken = λ _. stated.rule;
      past = λ are _. absurd (stated.broken are);
      falling = λ _. c.first_falling.ensures.found inside;
      past_index = λ e. absurd (omega (arith, e, is));
      kept = λ no _. absurd (no is);
    }
