-- Steps of an iterator over a part of the bits, from both ends.
use Rattle.std.proofs.Common.{◌≡◌, ℕ, suc, ◌+◌, ◌-◌, ◌*◌, ◌<◌, ◌≤◌, List, [], ◌∷◌, ◌++◌, Bool, false, take, length, get_or, refl, ap, ◌∙◌, arith}
use Rattle.std.proofs.lemmas.List.{drop_more}
use Rattle.arrow2_model.specs.Lists.{bits, part}
use Rattle.arrow2_model.proofs.Bits.{length-bits}
use Rattle.arrow2_model.proofs.Parts.{length-part, part_more, part-part}

pub part_none : (items : List Bool) (a n : ℕ) → n ≡ 0 → part items a n ≡ []
part_none items a n e = rw e refl

pub part_first : (bytes : List ℕ) (a i e : ℕ) → i < e → a + e ≤ 8 * length bytes → part (bits bytes) (a + i) (e - i) ≡ get_or (bits bytes) (a + i) false ∷ part (bits bytes) (a + (i + 1)) (e - (i + 1))
part_first bytes a i e h k =
    let l = length-bits bytes in
    let n : e - i ≡ suc (e - (i + 1)) = omega arith in
    let m : a + (i + 1) ≡ (a + i) + 1 = omega arith in
    rw (n, m) (ap (take (suc (e - (i + 1)))) (drop_more (bits bytes) (a + i) false (omega arith)))

pub part_last : (bytes : List ℕ) (a i e : ℕ) → i < e → a + e ≤ 8 * length bytes → part (bits bytes) (a + i) (e - i) ≡ part (bits bytes) (a + i) (e - 1 - i) ++ get_or (bits bytes) (a + (e - 1)) false ∷ []
part_last bytes a i e h k =
    let l = length-bits bytes in
    let n : e - i ≡ (e - 1 - i) + 1 = omega arith in
    let m : (a + i) + (e - 1 - i) ≡ a + (e - 1) = omega arith in
    rw n (part_more (bits bytes) (a + i) (e - 1 - i) false (omega arith) ∙ ap (λ q. part (bits bytes) (a + i) (e - 1 - i) ++ get_or (bits bytes) q false ∷ []) m)

pub length-part_bits : (bytes : List ℕ) (a n : ℕ) → a + n ≤ 8 * length bytes → length (part (bits bytes) a n) ≡ n
length-part_bits bytes a n h = let l = length-bits bytes in length-part (bits bytes) a n (omega arith)

pub ruleset walking = (part_none, part_first, part_last, length-part_bits)

pub length-bits_le : (bytes : List ℕ) (n : ℕ) → n ≤ 8 * length bytes → n ≤ length (bits bytes)
length-bits_le bytes n h = let l = length-bits bytes in omega (arith)

pub ruleset parts = (part-part, length-part_bits, length-bits_le)
