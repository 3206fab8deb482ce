-- The bits of bytes that are all alike.
use Rattle.std.proofs.Common.{◌≡◌, ◌∙◌, ℕ, ◌+◌, ◌-◌, ◌*◌, ◌/◌, ◌<◌, ◌≤◌, ◌⊎◌, inl, inr, List, ◌++◌, Bool, false, true, take, replicate, length, get_or, ap, sym, arith}
use Rattle.std.proofs.lemmas.Bool.{cases_lt}
use Rattle.std.proofs.lemmas.List.{length-append, length-take-le, length-replicate, take-replicate, get_or-take, get_or_append_left, get_or-append_right, get_or-replicate, get_or_past, ext_get_or, take_all}
use Rattle.arrow2_model.specs.Lists.{bits, IsCanonical}
use Rattle.arrow2_model.proofs.Bits.{bits-append, length-bits}
use Rattle.arrow2_model.proofs.Bytes.{bits-ones, bits-zeros, front-zeros}
use Rattle.arrow2_model.proofs.Parts.{get_or-padded}
use Rattle.arrow2_packed_bits.proofs.Buffer.{AreBytes, append_fits, copies_fit}
use Rattle.arrow2_packed_bits.proofs.WordPushes.{Hold, held, before}

-- a front of the bits of bytes that are all ones
pub front_of_ones : (bytes : List ℕ) (n m : ℕ) → bytes ≡ replicate m 255 → m ≡ (n + 7) / 8 → take n (bits bytes) ≡ replicate n true
front_of_ones bytes n m e h = rw (e, bits-ones m) (take-replicate n (8 * m) true (omega arith))

-- a front of the bits of bytes that are all zero
pub front_of_zeros : (bytes : List ℕ) (n m : ℕ) → bytes ≡ replicate m 0 → m ≡ (n + 7) / 8 → take n (bits bytes) ≡ replicate n false
front_of_zeros bytes n m e h = rw e (front-zeros m n (omega arith))

-- ---- one value after items

-- bytes that were resized to no fewer
pub resized : (bytes after : List ℕ) (n m b : ℕ) → after ≡ take n bytes ++ replicate (n - m) b → m ≡ length bytes → length bytes ≤ n → after ≡ bytes ++ replicate (n - length bytes) b
resized bytes after n m b e is le = e ∙ (ap (λ (t : List ℕ). t ++ replicate (n - m) b) (take_all n bytes le) ∙ ap (λ k. bytes ++ replicate (n - k) b) is)

-- a bit of bytes that grew by bytes of one value
grown_bit : (bytes grown : List ℕ) (c b k : ℕ) (v : Bool) → grown ≡ bytes ++ replicate c b → bits (replicate c b) ≡ replicate (8 * c) v → 8 * length bytes ≤ k → k < 8 * length grown → get_or (bits grown) k false ≡ v
grown_bit bytes grown c b k v e are ge lt =
    let size : length grown ≡ length bytes + c = ap length e ∙ (length-append bytes (replicate c b) ∙ ap (λ n. length bytes + n) (length-replicate c b)) in
    ap (λ (t : List Bool). get_or t k false) (ap bits e ∙ bits-append bytes (replicate c b))
    ∙ (get_or-append_right (bits bytes) (bits (replicate c b)) (8 * length bytes) k false (length-bits bytes) ge
    ∙ (ap (λ (t : List Bool). get_or t (k - 8 * length bytes) false) are ∙ get_or-replicate (8 * c) (k - 8 * length bytes) v false (omega (arith, size, ge, lt))))

-- the size of bytes that were filled up
full_size : (bytes grown : List ℕ) (total m b : ℕ) → grown ≡ bytes ++ replicate (m - length bytes) b → m ≡ (total + 7) / 8 → length bytes ≤ m → length grown ≡ (total + 7) / 8
full_size bytes grown total m b e is le = ap length e ∙ (length-append bytes (replicate (m - length bytes) b) ∙ omega (arith, length-replicate (m - length bytes) b, is, le))

pub falses_following : (bytes after : List ℕ) (n total m : ℕ) → IsCanonical bytes n → n ≤ total → m ≡ (total + 7) / 8 → after ≡ bytes ++ replicate (m - length bytes) 0 → Hold after total (take n (bits bytes) ++ replicate (total - n) false)
falses_following bytes after n total m canonical more is e =
    let own : List Bool = take n (bits bytes) in
    let c : ℕ = m - length bytes in
    let l = length-bits bytes in
    let u = length-take-le n (bits bytes) (omega (arith, l, canonical.exact)) in
    let size = full_size bytes after total m 0 e is (omega (arith, canonical.exact, is, more)) in
    let low : AreBytes after = rw e (append_fits bytes (replicate c 0) canonical.fits (copies_fit c 0 (omega arith))) in
    held after total (own ++ replicate (total - n) false) low (omega (arith, length-append own (replicate (total - n) false), length-replicate (total - n) false, u, more)) size (λ k k<. elim (cases_lt k (8 * length bytes)) [
      | inl lt ↦ before bytes after (replicate c 0) k e lt ∙ (elim (cases_lt k n) [
        | inl inside ↦ sym (get_or-padded own (total - n) k ∙ get_or-take n (bits bytes) k false inside)
        | inr past ↦ canonical.clear k past ∙ sym (get_or-padded own (total - n) k ∙ get_or_past own k false (omega (arith, u, past)))
      ])
      | inr ge ↦ grown_bit bytes after c 0 k false e (bits-zeros c) ge k< ∙ sym (get_or-padded own (total - n) k ∙ get_or_past own k false (omega (arith, u, ge, canonical.exact)))
    ])

-- bytes that grew by ones, whose bits are then set from bit n to the end of its byte
pub trues_following : (bytes grown marked : List ℕ) (n total m : ℕ) → IsCanonical bytes n → n ≤ total → m ≡ (total + 7) / 8 → grown ≡ bytes ++ replicate (m - length bytes) 255 → length marked ≡ length grown
    → ((k : ℕ) → (k < n) ⊎ (8 * ((n + 7) / 8) ≤ k) → get_or (bits marked) k false ≡ get_or (bits grown) k false) → ((k : ℕ) → n ≤ k → k < 8 * ((n + 7) / 8) → get_or (bits marked) k false ≡ true)
    → take total (bits marked) ≡ take n (bits bytes) ++ replicate (total - n) true
trues_following bytes grown marked n total m canonical more is e same kept written =
    let own : List Bool = take n (bits bytes) in
    let new : List Bool = replicate (total - n) true in
    let c : ℕ = m - length bytes in
    let l = length-bits bytes in
    let u = length-take-le n (bits bytes) (omega (arith, l, canonical.exact)) in
    let size = full_size bytes grown total m 255 e is (omega (arith, canonical.exact, is, more)) in
    let t = length-take-le total (bits marked) (omega (arith, length-bits marked, same, size)) in
    let all = length-append own new in
    let many = length-replicate (total - n) true in
    let value : (k : ℕ) → n ≤ k → k < total → get_or (own ++ new) k false ≡ true =
    λ k ge lt. get_or-append_right own new n k false u ge ∙ get_or-replicate (total - n) (k - n) true false (omega (arith, ge, lt)) in
    ext_get_or false (take total (bits marked)) (own ++ new) (omega (arith, t, all, many, u, more)) (λ k k<.
    get_or-take total (bits marked) k false (omega (arith, t, k<)) ∙ (elim (cases_lt k n) [
      | inl inside ↦
          kept k (inl inside) ∙ (before bytes grown (replicate c 255) k e (omega (arith, canonical.exact, inside))
          ∙ sym (get_or_append_left own new false k (omega (arith, u, inside)) ∙ get_or-take n (bits bytes) k false inside))
      | inr past ↦ elim (cases_lt k (8 * ((n + 7) / 8))) [
        | inl near ↦ written k past near ∙ sym (value k past (omega (arith, t, k<)))
        | inr far ↦
            kept k (inr far) ∙ (grown_bit bytes grown c 255 k true e (bits-ones c) (omega (arith, canonical.exact, far)) (omega (arith, size, t, k<))
            ∙ sym (value k past (omega (arith, t, k<))))
      ]
    ]))

pub ruleset filling = (front_of_ones, front_of_zeros)
