-- The bits of whole bytes: fronts, ends and parts of them, and zeros.
use Rattle.std.proofs.Common.{◌≡◌, ℕ, zero, suc, ◌+◌, ◌*◌, ◌≤◌, List, ◌∷◌, ◌++◌, false, true, take, drop, replicate, length, refl, ap, sym, ◌∙◌, arith}
use Rattle.std.proofs.lemmas.List.{take-append-drop, drop_at, take_at, length-drop, length-take-le, drop-drop, replicate-append-replicate}
use Rattle.arrow2_model.specs.Lists.{unnum, bits, part}
use Rattle.arrow2_model.proofs.Bits.{bits-nil, bits-cons, bits-append, length-bits}
use Rattle.arrow2_model.proofs.Parts.{part-part}

split-bits : (bytes : List ℕ) (j : ℕ) → bits bytes ≡ bits (take j bytes) ++ bits (drop j bytes)
split-bits bytes j = sym (ap bits (take-append-drop j bytes)) ∙ bits-append (take j bytes) (drop j bytes)

pub drop-bits : (bytes : List ℕ) (j : ℕ) → j ≤ length bytes → drop (8 * j) (bits bytes) ≡ bits (drop j bytes)
drop-bits bytes j h = let l = length-bits (take j bytes) in let m = length-take-le j bytes h in rw (split-bits bytes j) (drop_at (bits (take j bytes)) (bits (drop j bytes)) (8 * j) (omega (arith, l, m)))

pub take-bits : (bytes : List ℕ) (j : ℕ) → j ≤ length bytes → take (8 * j) (bits bytes) ≡ bits (take j bytes)
take-bits bytes j h = let l = length-bits (take j bytes) in let m = length-take-le j bytes h in rw (split-bits bytes j) (take_at (bits (take j bytes)) (bits (drop j bytes)) (8 * j) (omega (arith, l, m)))

-- whole bytes of the bits
pub part-bits : (bytes : List ℕ) (j m : ℕ) → j + m ≤ length bytes → part (bits bytes) (8 * j) (8 * m) ≡ bits (part bytes j m)
part-bits bytes j m h = let l = length-drop j bytes in ap (take (8 * m)) (drop-bits bytes j (omega arith)) ∙ take-bits (drop j bytes) m (omega arith)

-- bits of some of the bytes
pub part-bits-part : (bytes : List ℕ) (j m k n a : ℕ) → j + m ≤ length bytes → k + n ≤ 8 * m → a ≡ 8 * j + k → part (bits (part bytes j m)) k n ≡ part (bits bytes) a n
part-bits-part bytes j m k n a h g e = rw (e, ← part-bits bytes j m h) (part-part (bits bytes) (8 * j) (8 * m) k n g)

-- the bits after the first bytes
pub part-bits-drop : (bytes : List ℕ) (j k n : ℕ) → j ≤ length bytes → part (bits (drop j bytes)) k n ≡ part (bits bytes) (8 * j + k) n
part-bits-drop bytes j k n h = ap (λ t. take n (drop k t)) (sym (drop-bits bytes j h)) ∙ ap (take n) (drop-drop k (8 * j) (bits bytes))

unnum-zero : unnum 8 0 ≡ replicate 8 false
unfolding unnum
unnum-zero = refl

falses-add : (m n : ℕ) → replicate m false ++ replicate n false ≡ replicate (m + n) false
falses-add zero n = let z : 0 + n ≡ n = omega arith in rw z refl
falses-add (suc m) n = let s : suc m + n ≡ suc (m + n) = omega arith in rw s (ap (λ t. false ∷ t) (falses-add m n))

-- bytes that are zero
pub bits-zeros : (m : ℕ) → bits (replicate m 0) ≡ replicate (8 * m) false
bits-zeros zero = bits-nil
bits-zeros (suc m) =
    let e : 8 * suc m ≡ 8 + 8 * m = omega arith in
    bits-cons 0 (replicate m 0) ∙ (rw (unnum-zero, bits-zeros m, e) (falses-add 8 (8 * m)))

take-falses : (n m : ℕ) → n ≤ m → take n (replicate m false) ≡ replicate n false
take-falses zero m h = refl
take-falses (suc n) zero h = grind arith
take-falses (suc n) (suc m) h = ap (λ t. false ∷ t) (take-falses n m (omega arith))

-- a front of the bits of bytes that are zero
pub front-zeros : (m n : ℕ) → n ≤ 8 * m → take n (bits (replicate m 0)) ≡ replicate n false
front-zeros m n h = rw (bits-zeros m) (take-falses n (8 * m) h)

-- ---- ones

unnum-255 : unnum 8 255 ≡ replicate 8 true
unfolding unnum
unnum-255 = refl

pub bits-ones : (m : ℕ) → bits (replicate m 255) ≡ replicate (8 * m) true
bits-ones zero = bits-nil
bits-ones (suc m) =
    let e : 8 * suc m ≡ 8 + 8 * m = omega arith in
    bits-cons 255 (replicate m 255) ∙ (rw (unnum-255, bits-ones m, e) (replicate-append-replicate 8 (8 * m) true))
