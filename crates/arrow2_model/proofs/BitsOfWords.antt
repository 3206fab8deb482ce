-- Words that are joined into a list.
use Rattle.std.proofs.Common.{◌≡◌, ℕ, zero, suc, ◌+◌, ◌-◌, ◌*◌, ◌/◌, ◌%◌, ◌<◌, ◌≤◌, List, [], ◌∷◌, Bool, false, length, get_or, ap, sym, ◌∙◌, arith, mul-suc, mul_comm}
use Rattle.std.specs.Int.{div_ceil}
use Rattle.std.specs.List.{flat_map, range_with_len}
use Rattle.std.proofs.lemmas.List.{ext_get_or, length-take-le, get_or-take, length-append, get_or_append_left, get_or-append_right}
use Rattle.std.proofs.lemmas.List.FromFn.{length-range_with_len, get_or-range_with_len}
use Rattle.std.proofs.lemmas.Nat.{mod_below, div_below, div-add-mod'}
use Rattle.std.proofs.lemmas.Grind.{div_ceil_times}
use Rattle.arrow2_model.specs.Lists.{bit, unnum}
use Rattle.arrow2_model.specs.Kernels.{bits_of_words}
use Rattle.arrow2_model.proofs.Bits.{length-unnum, get_or-unnum}

-- item i of the pieces of w items each
get_or-pieces : (w : ℕ) (g : ℕ → ℕ) (xs : List ℕ) (j i k : ℕ) → j < length xs → i < w → k ≡ w * j + i → get_or (flat_map (λ x. unnum w (g x)) xs) k false ≡ bit (g (get_or xs j 0)) i
get_or-pieces w g [] j i k h h' e = grind arith
get_or-pieces w g (x ∷ xs) zero i k h h' e =
    let n = length-unnum w (g x) in
    let k= : k ≡ i = omega arith in
    get_or_append_left (unnum w (g x)) (flat_map (λ x. unnum w (g x)) xs) false k (omega arith) ∙ (ap (λ m. get_or (unnum w (g x)) m false) k= ∙ get_or-unnum w (g x) i false h')
get_or-pieces w g (x ∷ xs) (suc j) i k h h' e =
    let m = mul-suc w j in
    get_or-append_right (unnum w (g x)) (flat_map (λ x. unnum w (g x)) xs) w k false (length-unnum w (g x)) (omega (arith, m)) ∙ get_or-pieces w g xs j i (k - w) (omega arith) h' (omega (arith, m))

length-pieces : (w : ℕ) (g : ℕ → ℕ) (xs : List ℕ) → length (flat_map (λ x. unnum w (g x)) xs) ≡ w * length xs
length-pieces w g [] = omega arith
length-pieces w g (x ∷ xs) = length-append (unnum w (g x)) (flat_map (λ x. unnum w (g x)) xs) ∙ omega (arith, length-unnum w (g x), length-pieces w g xs, mul-suc w (length xs))

spare_of_words : (w n : ℕ) (g : ℕ → ℕ) → 0 < w → n ≤ length (flat_map (λ j. unnum w (g j)) (range_with_len 0 (div_ceil n w)))
spare_of_words w n g p =
    let m : ℕ = div_ceil n w in
    let spare = div_ceil_times n w p in
    let r = length-range_with_len 0 m in
    let l = length-pieces w g (range_with_len 0 m) in
    let e : w * length (range_with_len 0 m) ≡ w * m = ap (λ q. w * q) r in
    omega (arith, l, e, spare.0, mul_comm w m)

pub length-joined : (w : ℕ) (g : ℕ → ℕ) (n : ℕ) → 0 < w → length (bits_of_words w g n) ≡ n
unfolding bits_of_words
length-joined w g n p = length-take-le n (flat_map (λ j. unnum w (g j)) (range_with_len 0 (div_ceil n w))) (spare_of_words w n g p)

-- item k is bit k % w of word k / w
pub get_or-joined : (w : ℕ) (g : ℕ → ℕ) (n k : ℕ) → 0 < w → k < n → get_or (bits_of_words w g n) k false ≡ bit (g (k / w)) (k % w)
unfolding bits_of_words
get_or-joined w g n k p h =
    let m : ℕ = div_ceil n w in
    let spare = div_ceil_times n w p in
    let j : ℕ = k / w in
    let i : ℕ = k % w in
    let i< : i < w = mod_below k w p in
    let at : k ≡ w * j + i = omega (arith, div-add-mod' k w, mul_comm w (k / w)) in
    let j< : j < m = div_below k w m p (omega (arith, spare.0)) in
    let r = length-range_with_len 0 m in
    let e : get_or (range_with_len 0 m) j 0 ≡ j = get_or-range_with_len 0 m j 0 j< ∙ omega arith in
    get_or-take n (flat_map (λ q. unnum w (g q)) (range_with_len 0 m)) k false h
    ∙ (get_or-pieces w g (range_with_len 0 m) j i k (omega (arith, r)) i< at ∙ ap (λ q. bit (g q) i) e)

-- a list whose items are these bits
pub joined_from : (w : ℕ) (g : ℕ → ℕ) (n : ℕ) (xs : List Bool) → 0 < w → length xs ≡ n → ((k : ℕ) → k < n → get_or xs k false ≡ bit (g (k / w)) (k % w)) → xs ≡ bits_of_words w g n
joined_from w g n xs p l h =
    let m = length-joined w g n p in
    ext_get_or false xs (bits_of_words w g n) (l ∙ sym m) (λ k k<. h k (omega (arith, l)) ∙ sym (get_or-joined w g n k p (omega (arith, l))))

-- only the lowest w bits of a word count
pub same_joined : (w : ℕ) (g h : ℕ → ℕ) (n : ℕ) → 0 < w → ((j : ℕ) → unnum w (g j) ≡ unnum w (h j)) → bits_of_words w g n ≡ bits_of_words w h n
same_joined w g h n p same =
    joined_from w h n (bits_of_words w g n) p (length-joined w g n p)
    (λ k k<. let i< : k % w < w = mod_below k w p in
    get_or-joined w g n k p k< ∙ (sym (get_or-unnum w (g (k / w)) (k % w) false i<) ∙ (ap (λ (u : List Bool). get_or u (k % w) false) (same (k / w)) ∙ get_or-unnum w (h (k / w)) (k % w) false i<)))
