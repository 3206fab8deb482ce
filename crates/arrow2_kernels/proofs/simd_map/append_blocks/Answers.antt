use Rattle.std.proofs.Common.{◌≡◌, ◌∙◌, ◌*◌, ◌+◌, ◌-◌, ◌/◌, ◌++◌, ℕ, List, [], ◌∷◌, ap, sym, take, drop, length, arith, take_all}
use Rattle.std.proofs.lemmas.Result.{on_ok_weaker}
use Rattle.arrow2_model.specs.Lists.{bits}
use Rattle.arrow2_model.specs.Tables.{each}
use Rattle.arrow2_kernels.proofs.LaneSteps.{block_more, no_block}
use Rattle.arrow2_kernels.proofs.simd_map.append_blocks.Goals as goal

pub loop-k-init : goal.loop-k-init
loop-k-init c = no_block c.args.t c.args.left.now c.args.right.now c.args.bytes.now.items c.requires.empty

pub loop-k-preserved : goal.loop-k-preserved
loop-k-preserved c =
    let left = c.args.left.now in
    let right = c.args.right.now in
    let p : ℕ = 4096 * c.loop-k.k in
    let n : p + 4096 - p ≡ 4096 = omega arith in
    let m : p + 4096 ≡ 4096 * (c.loop-k.k + 1) = omega arith in
    let more = c.in_ok-append_binary.ensures ∙ ap (λ (q : ℕ). bits c.loop-k.bytes.items ++ each c.args.t (bits (take q (drop p left)) ∷ bits (take q (drop p right)) ∷ [])) n in
    block_more c.args.t p 4096 left right c.loop-k.bytes.items c.append_binary.new.bytes.items c.requires.same_lengths (omega arith) c.loop-k.invariant more
    ∙ ap (λ (q : ℕ). each c.args.t (bits (take q left) ∷ bits (take q right) ∷ [])) m

pub returns : goal.returns
returns c =
    let left = c.args.left.now in
    let right = c.args.right.now in
    let k : ℕ = length left / 4096 in
    let p : ℕ = 4096 * k in
    let same : p ≡ 4096 * c.loop-k.k = omega arith in
    let rest : length right - p ≡ length left - p = omega (arith, c.requires.same_lengths) in
    let all : p + (length left - p) ≡ length left = omega arith in
    let done = c.loop-k.invariant ∙ ap (λ (q : ℕ). each c.args.t (bits (take q left) ∷ bits (take q right) ∷ [])) (sym same) in
    on_ok_weaker c.append_binary-2.result
    (λ e. block_more c.args.t p (length left - p) left right c.loop-k.bytes.items c.append_binary-2.new.bytes.items c.requires.same_lengths (omega arith) done
    (e ∙ ap (λ (q : ℕ). bits c.loop-k.bytes.items ++ each c.args.t (bits (take (length left - p) (drop p left)) ∷ bits (take q (drop p right)) ∷ [])) rest)
    ∙ (ap (λ (b : List ℕ). each c.args.t (bits b ∷ bits (take (p + (length left - p)) right) ∷ [])) (take_all (p + (length left - p)) left (omega arith))
    ∙ ap (λ (b : List ℕ). each c.args.t (bits left ∷ bits b ∷ [])) (take_all (p + (length left - p)) right (omega (arith, c.requires.same_lengths)))))
    c.append_binary-2.ensures
