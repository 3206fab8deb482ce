use Rattle.std.proofs.Common.{◌≡◌, ◌∙◌, ℕ, suc, ◌+◌, ◌<◌, ◌^◌, List, [], ◌∷◌, ◌++◌, map, take, ap, sym, subst, arith, All}
use Rattle.std.proofs.lemmas.List.{append_assoc, length-set, take_more_set}
use Rattle.arrow2_ffi.proofs.set_indices.write_ones.Goals as goal

pub loop-one-preserved : goal.loop-one-preserved
loop-one-preserved c =
    let kept = c.loop-one.invariant in
    let position : ℕ → ℕ = λ k. c.args.base + k in
    let next : ℕ = position c.in-Some.one in
    let others : List ℕ = map position c.next.new.self in
    let step : map position c.loop-one.one-iterator ≡ next ∷ others = ap (map position) c.in-Some.ensures.steps in
    let fit : All (λ p. p < 2 ^ 64) (next ∷ others) = subst (All (λ p. p < 2 ^ 64)) step kept.fit in
    let n = length-set c.loop-one.indices c.loop-one.count next in
    let few = kept.few in
    let spare = c.if-count-indices.false in
    record {
      many = n ∙ kept.many;
      few = omega (arith, n, few, spare);
      fit = λ k d l. fit (suc k) d (omega (arith, l));
      done =
          ap (λ (ps : List ℕ). ps ++ others) (take_more_set c.loop-one.indices c.loop-one.count next (omega (arith, few, spare)))
          ∙ (append_assoc (take c.loop-one.count c.loop-one.indices) (next ∷ []) others
          ∙ (ap (λ (ps : List ℕ). take c.loop-one.count c.loop-one.indices ++ ps) (sym step) ∙ kept.done));
    }
