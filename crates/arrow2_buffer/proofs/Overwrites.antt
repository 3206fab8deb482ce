-- Lists after a part of them was overwritten.
use Rattle.std.proofs.Common.{◌≡◌, refl, sym, ap, ◌∙◌, ℕ, ◌+◌, ◌≤◌, List, ◌++◌, take, drop, length, arith, drop_at, drop-drop, take_at, length-take-le, length-append, length-drop}
use Rattle.std.specs.List.{length_refill}
use Rattle.arrow2_model.specs.Lists.{overwrite, part}
use Rattle.arrow2_buffer.specs.Loans.{overwrite_lent}

-- the list keeps its length
pub length-overwritten : {X : Type 0} (items : List X) (i : ℕ) (others : List X) → i + length others ≤ length items → length (overwrite items i others) ≡ length items
length-overwritten items i others h =
    let tail = drop (length others) (drop i items) in
    omega (arith, length-append (take i items) (others ++ tail), length-append others tail, length-take-le i items (omega arith), length-drop (length others) (drop i items), length-drop i items)

-- a loan leaves the overwritten list, where the others fit
pub rewritten_within : {X : Type 0} (items : List X) (i : ℕ) (others : List X) → i + length others ≤ length items → overwrite_lent items i others ≡ overwrite items i others
rewritten_within items i others h =
    let all = overwrite items i others in
    take_at all (drop (length all) items) (length items) (length-overwritten items i others h)

-- the list after a loan has the same length, whatever was written
pub length-rewritten : {X : Type 0} (items : List X) (i : ℕ) (others : List X) → length (overwrite_lent items i others) ≡ length items
length-rewritten items i others = sym (length_refill (length items) items (overwrite items i others) refl)

-- a part that was overwritten holds the written items
pub written_part : {X : Type 0} (items : List X) (i n : ℕ) (others : List X) → i + n ≤ length items → length others ≡ n → part (overwrite_lent items i others) i n ≡ others
written_part items i n others h e =
    let tail = drop (length others) (drop i items) in
    let within : i + length others ≤ length items = omega (arith, e) in
    ap (λ l. part l i n) (rewritten_within items i others within) ∙ ap (take n) (drop_at (take i items) (others ++ tail) i (length-take-le i items (omega (arith, h)))) ∙ take_at others tail n e

-- the items before it are as they were
pub kept_before : {X : Type 0} (items : List X) (i n : ℕ) (others : List X) → i + n ≤ length items → length others ≡ n → take i (overwrite_lent items i others) ≡ take i items
kept_before items i n others h e =
    let tail = drop (length others) (drop i items) in
    let within : i + length others ≤ length items = omega (arith, e) in
    ap (take i) (rewritten_within items i others within) ∙ take_at (take i items) (others ++ tail) i (length-take-le i items (omega (arith, h)))

-- and the items after it
pub kept_following : {X : Type 0} (items : List X) (i n : ℕ) (others : List X) → i + n ≤ length items → length others ≡ n → drop (i + n) (overwrite_lent items i others) ≡ drop (i + n) items
kept_following items i n others h e =
    let tail = drop (length others) (drop i items) in
    let within : i + length others ≤ length items = omega (arith, e) in
    let at_i = drop_at (take i items) (others ++ tail) i (length-take-le i items (omega (arith, h))) in
    ap (drop (i + n)) (rewritten_within items i others within) ∙ sym (drop-drop n i (overwrite items i others)) ∙ ap (drop n) at_i ∙ drop_at others tail n e ∙ rw e (drop-drop n i items)

pub ruleset loans = (written_part, kept_before, kept_following)
