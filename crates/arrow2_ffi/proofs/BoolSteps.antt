-- Booleans read by words of 64.
use Rattle.std.proofs.Common.{◌≡◌, ◌∙◌, ℕ, ◌+◌, ◌-◌, ◌*◌, ◌<◌, ◌≤◌, ◌^◌, List, ◌++◌, Bool, false, take, drop, replicate, length, ap, sym, arith, length-take-le, length-drop, drop-drop, take_all}
use Rattle.arrow2_model.specs.Lists.{num, unnum, word, rest}
use Rattle.arrow2_model.proofs.Numbers.{unnum-num}
use Rattle.arrow2_model.proofs.Words.{rest-none}
use Rattle.arrow2_kernels.proofs.RowSteps.{one_rest}

-- the block of the first 64 is their word
pub first_block : (items block : List Bool) (x : ℕ) → 64 ≤ length items → x ≡ num block → take (length (take 64 items)) block ≡ take 64 items → length block ≡ 64 → x ≡ word 64 items 0
first_block items block x h is front size =
    let l : length (take 64 items) ≡ 64 = length-take-le 64 items h in
    let same : block ≡ take 64 items = sym (take_all 64 block (omega (arith, size))) ∙ (ap (λ (n : ℕ). take n block) (sym l) ∙ front) in
    is ∙ ap num same

-- those after them begin at the next word
pub next_block : (items : List Bool) (j : ℕ) → 64 ≤ length items → word 64 (take (length items - 64) (drop 64 items)) j ≡ word 64 items (j + 1)
next_block items j h =
    let l = length-drop 64 items in
    let all : take (length items - 64) (drop 64 items) ≡ drop 64 items = take_all (length items - 64) (drop 64 items) (omega (arith, l)) in
    ap (λ (t : List Bool). num (take 64 (drop (64 * j) t))) all ∙ ap (λ (t : List Bool). num (take 64 t)) (drop-drop (64 * j) 64 items ∙ ap (λ (n : ℕ). drop n items) (omega arith))

-- and are fewer by 64
pub fewer_items : (items : List Bool) → 64 ≤ length items → length items ≡ 64 + length (take (length items - 64) (drop 64 items))
fewer_items items h =
    let l = length-drop 64 items in
    let m = length-take-le (length items - 64) (drop 64 items) (omega (arith, l)) in
    omega (arith, m)

-- the masked word of the last block
pub rest_block : (items block : List Bool) (x m : ℕ) → length items < 64 → x ≡ num block → take (length items) block ≡ items → length block ≡ 64 → unnum 64 m ≡ take (length items) (unnum 64 x) ++ replicate (64 - length items) false → m < 2 ^ 64 → m ≡ word 64 items 0
rest_block items block x m short is front size masked fits =
    let whole : rest 64 items ≡ items = rest-none 64 items short in
    let same : unnum 64 x ≡ block = ap (unnum 64) is ∙ (ap (λ (n : ℕ). unnum n (num block)) (sym size) ∙ unnum-num block) in
    one_rest 64 x m (length items) items (omega arith) short (rw (whole, same) front) (ap length (sym whole)) masked fits
