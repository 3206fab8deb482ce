-- Words at a bit offset: merged from two words, and padded with zeros.
use Rattle.std.proofs.Common.{◌≡◌, ℕ, ◌+◌, ◌-◌, ◌*◌, ◌<◌, ◌≤◌, ◌||◌, List, ◌++◌, Bool, true, false, take, drop, replicate, length, get_or, refl, ap, sym, ◌∙◌, inl, inr, arith}
use lib.Lanes.{zip2}
use Rattle.std.proofs.lemmas.Bool.{cases_lt}
use Rattle.std.proofs.lemmas.List.{length-append, length-drop, length-take-le, length-replicate, get_or-drop, get_or-take, get_or-replicate, get_or_append_left, get_or-append_right, ext_get_or}
use Rattle.std.proofs.lemmas.Simd.{length-zip2, get_or-zip2}
use Rattle.arrow2_model.specs.Lists.{bits, num, part}
use Rattle.arrow2_model.proofs.Bits.{bits-append}
use Rattle.arrow2_model.proofs.Bytes.{bits-zeros}
use Rattle.arrow2_model.proofs.Numbers.{bit-num, num-part-lt, same_from_bits}
use Rattle.arrow2_model.proofs.Parts.{get_or-padded, get_or-part, length-part}

-- the word from item s on, of the word from item 0 and the word from item 8 on
pub merged : (items low high : List Bool) (w s : ℕ) → s < 8 → 8 ≤ w → s + w ≤ length items → 8 + w ≤ length items → low ≡ part items 0 w → high ≡ part items 8 w → zip2 (λ a b. a || b) (drop s low ++ replicate s false) (replicate (8 - s) false ++ take (w - (8 - s)) high) ≡ part items s w
merged items low high w s s<8 wide h h' is-low is-high =
    let f : Bool → Bool → Bool = λ a b. a || b in
    let ll : length low ≡ w = ap length is-low ∙ length-part items 0 w (omega arith) in
    let lh : length high ≡ w = ap length is-high ∙ length-part items 8 w (omega arith) in
    let down : List Bool = drop s low ++ replicate s false in
    let up : List Bool = replicate (8 - s) false ++ take (w - (8 - s)) high in
    let ld : length down ≡ w = omega (arith, length-append (drop s low) (replicate s false), length-drop s low, length-replicate s false, ll) in
    let lt : length (take (w - (8 - s)) high) ≡ w - (8 - s) = length-take-le (w - (8 - s)) high (omega (arith, lh)) in
    let lu : length up ≡ w = omega (arith, length-append (replicate (8 - s) false) (take (w - (8 - s)) high), length-replicate (8 - s) false, lt) in
    let lz = length-zip2 f down up (ld ∙ sym lu) in
    let lp = length-part items s w h in
    ext_get_or false (zip2 f down up) (part items s w) (lz ∙ (ld ∙ sym lp))
    (λ i i<.
    let i<w : i < w = omega (arith, lz, ld) in
    let one : i + s < w → get_or down i false ≡ get_or items (s + i) false =
    λ lt'. get_or_append_left (drop s low) (replicate s false) false i (omega (arith, length-drop s low, ll)) ∙ (get_or-drop s low i false ∙ (ap (λ l. get_or l (s + i) false) is-low ∙ (get_or-part items 0 w (s + i) false (omega arith) ∙ ap (λ k. get_or items k false) (omega arith)))) in
    let none : w ≤ i + s → get_or down i false ≡ false =
    λ ge. get_or-append_right (drop s low) (replicate s false) (w - s) i false (omega (arith, length-drop s low, ll)) (omega arith) ∙ get_or-replicate s (i - (w - s)) false false (omega arith) in
    let two : 8 - s ≤ i → get_or up i false ≡ get_or items (s + i) false =
    λ ge. get_or-append_right (replicate (8 - s) false) (take (w - (8 - s)) high) (8 - s) i false (length-replicate (8 - s) false) ge ∙
    (get_or-take (w - (8 - s)) high (i - (8 - s)) false (omega arith) ∙ (ap (λ l. get_or l (i - (8 - s)) false) is-high ∙ (get_or-part items 8 w (i - (8 - s)) false (omega arith) ∙ ap (λ k. get_or items k false) (omega arith)))) in
    let zero' : i < 8 - s → get_or up i false ≡ false =
    λ lt'. get_or_append_left (replicate (8 - s) false) (take (w - (8 - s)) high) false i (omega (arith, length-replicate (8 - s) false)) ∙ get_or-replicate (8 - s) i false false lt' in
    get_or-zip2 f down up i false false false (omega (arith, ld)) (omega (arith, lu)) ∙
    (elim (cases_lt (i + s) w) [
      | inl a ↦ elim (cases_lt i (8 - s)) [
        | inl b ↦ rw (one a, zero' b) (or_false (get_or items (s + i) false))
        | inr b ↦ rw (one a, two b) (or_same (get_or items (s + i) false))
      ]
      | inr a ↦ rw (none a, two (omega arith)) refl
    ] ∙ sym (get_or-part items s w i false i<w)))
  where
    or_false : (b : Bool) → (b || false) ≡ b
    or_false true = refl
    or_false false = refl

    or_same : (b : Bool) → (b || b) ≡ b
    or_same true = refl
    or_same false = refl

-- items that are false at the end don't change the number
num-padded : (items : List Bool) (m a w : ℕ) → num (part (items ++ replicate m false) a w) ≡ num (part items a w)
num-padded items m a w =
    same_from_bits w (num (part (items ++ replicate m false) a w)) (num (part items a w)) (num-part-lt w (items ++ replicate m false) a) (num-part-lt w items a)
    (λ i i<. bit-num (part (items ++ replicate m false) a w) i ∙ (get_or-part (items ++ replicate m false) a w i false i< ∙
    (get_or-padded items m (a + i) ∙ sym (bit-num (part items a w) i ∙ get_or-part items a w i false i<))))

-- zero bytes after the bytes don't change the word
pub num-zeros : (bytes : List ℕ) (m a w : ℕ) → num (part (bits (bytes ++ replicate m 0)) a w) ≡ num (part (bits bytes) a w)
num-zeros bytes m a w = rw (bits-append bytes (replicate m 0), bits-zeros m) (num-padded (bits bytes) (8 * m) a w)
