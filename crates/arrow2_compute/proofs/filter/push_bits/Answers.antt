use Rattle.std.proofs.Common.{◌≡◌, ◌∙◌, ◌+◌, ◌<◌, ◌^◌, [], ◌∷◌, ◌++◌, All, length, ap, sym, subst, arith, rules, OnOk, length-append, flat_map}
use Rattle.std.proofs.lemmas.Grind.{common_steps}
use Rattle.arrow2_model.specs.Lists.{bits, unnum, part}
use Rattle.arrow2_model.proofs.Bits.{length-unnum}
use Rattle.arrow2_chunk.specs.Ones.{ones}
use Rattle.arrow2_walks.specs.Selections.{selection}
use Rattle.arrow2_walks.proofs.RemainingItems.{left-all, left-done}
use Rattle.arrow2_compute.proofs.KernelLoops.{kept-fits, only-memory, part-whole}
use Rattle.arrow2_numeric.proofs.Selecting.{bit-at, cut-ones, positions-inside, selected-max}
use Rattle.arrow2_compute.proofs.filter.push_bits.Goals as goal
use Rattle.arrow2_compute.proofs.filter.push_bits.Goals.{After-extend_from_slice, After-bit}

-- the bytes hold all bits of the block, which the word selects
selected : (c : After-extend_from_slice) → part (bits c.to_ne_bytes.result) 0 64 ≡ selection (unnum 64 c.args.block) (unnum 64 c.args.word)
selected c =
    let block = unnum 64 c.args.block in
    let n = length-unnum 64 c.args.block in
    ap (λ l. part l 0 64) c.to_ne_bytes.ensures.bits ∙ (part-whole block 64 (sym n) ∙ sym (selected-max block c.args.word c.if-word-eq18446744073709551615.true (omega (arith, n))))

pub returns-then-word-eq18446744073709551615-clause-ok : goal.returns-then-word-eq18446744073709551615-clause-ok
returns-then-word-eq18446744073709551615-clause-ok c = subst (λ l. OnOk c.extend_from_slice.result (c.extend_from_slice.new.self.items ≡ c.args.kept.now.items ++ l)) (selected c) c.extend_from_slice.ensures.ok

pub returns-then-word-eq18446744073709551615-clause-only : goal.returns-then-word-eq18446744073709551615-clause-only
returns-then-word-eq18446744073709551615-clause-only c = only-memory c.extend_from_slice.result _ c.extend_from_slice.ensures.overflow c.extend_from_slice.ensures.only (omega (arith, ap length (selected c), c.requires.fits))

pub loop-position-init : goal.loop-position-init
loop-position-init c =
    let positions : c.into_iter-position-iterator.result ≡ ones (unnum 64 c.args.word) = search rules in
    record {
      inside = positions-inside c.args.word c.into_iter-position-iterator.result positions;
      done = ap (λ l. c.args.kept.now.items ++ flat_map (λ position. part (unnum 64 c.args.block) position 1) l) positions ∙ ap (λ l. c.args.kept.now.items ++ l) (cut-ones (unnum 64 c.args.block) (unnum 64 c.args.word));
    }

-- the position selects this bit
here : (c : After-bit) → part (unnum 64 c.args.block) c.in-Some.position 1 ≡ c.bit.result ∷ []
here c =
    let less : c.in-Some.position < 64 = subst (All (λ position. position < 64)) c.in-Some.ensures.steps c.loop-position.invariant.inside 0 0 (omega arith) in
    bit-at c.args.block c.in-Some.position c.bit.result less c.bit.ensures

pub loop-position-preserved : goal.loop-position-preserved
loop-position-preserved c =
    let before = c.loop-position.invariant in
    let first = c.in-Some.ensures.steps in
    let more = c.in_ok-push.ensures.ok ∙ ap (λ l. c.loop-position.kept.items ++ l) (sym (here (goal.at.loop-position-preserved c).After-bit)) in
    record {
      inside = left-all (λ position. position < 64) first before.inside;
      done = left-done (λ position. part (unnum 64 c.args.block) position 1) _ _ _ first more before.done;
    }

-- no more is kept than a usize counts
pub returns-in_err-push-clause-only : goal.returns-in_err-push-clause-only
returns-in_err-push-clause-only c =
    let one = ap length (here (goal.at.returns-in_err-push-clause-only c).After-bit) in
    let fits = kept-fits (λ position. part (unnum 64 c.args.block) position 1) _ _ _ _ _ c.in-Some.ensures.steps c.loop-position.invariant.done in
    let whole = length-append c.args.kept.now.items (selection (unnum 64 c.args.block) (unnum 64 c.args.word)) in
    let counted : length c.loop-position.kept.items + 1 < 2 ^ 64 = omega (arith, fits, whole, one, c.requires.fits) in
    grind (arith, common_steps, counted)
