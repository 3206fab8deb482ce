-- Items of a word after those that bytes hold.
use Rattle.std.proofs.Common.{◌≡◌, ◌≢◌, inl, inr, ℕ, ◌+◌, ◌-◌, ◌*◌, ◌/◌, ◌%◌, ◌<◌, ◌≤◌, ◌||◌, List, ◌++◌, Bool, true, false, take, drop, replicate, length, get_or, set, refl, ap, sym, ◌∙◌, arith}
use lib.Lanes.{zip2}
use Rattle.std.proofs.lemmas.Bool.{cases_lt, cases_eq}
use Rattle.std.proofs.lemmas.Grind.{get_or_default_zero}
use Rattle.std.proofs.lemmas.List.{length-append, length-set, length-take-le, get_or-take, get_or-drop, get_or_append_left, get_or-append_right, get_or-replicate, length-replicate, get_or_past, get_or-set_same, get_or-set_other, ext_get_or}
use Rattle.arrow2_model.specs.Lists.{bit, bits, unnum, IsCanonical}
use Rattle.arrow2_model.proofs.Bits.{length-unnum, get_or-unnum, bits-append, length-bits, get_or-bits, get_or-bits_at}
use Rattle.arrow2_model.proofs.Bytes.{take-bits}
use Rattle.arrow2_model.proofs.Parts.{get_or-padded}
use Rattle.arrow2_model.proofs.Tables.{bit-zip2}
use Rattle.arrow2_packed_bits.proofs.Buffer.{AreBytes, append_fits, take_fits, set_fits}

-- bytes that hold these items and nothing else
abbrev pub Hold : List ℕ → ℕ → List Bool → Type 0
Hold bytes n items = IsCanonical bytes n × (take n (bits bytes) ≡ items)

-- from each bit of the bytes
pub held : (bytes : List ℕ) (n : ℕ) (items : List Bool) → AreBytes bytes → length items ≡ n → length bytes ≡ (n + 7) / 8 → ((k : ℕ) → k < 8 * length bytes → get_or (bits bytes) k false ≡ get_or items k false) → Hold bytes n items
held bytes n items fits size exact same =
    let l = length-bits bytes in
    let t = length-take-le n (bits bytes) (omega (arith, l, exact)) in (
      record {
        fits = fits;
        exact = exact;
        clear = λ k h. elim (cases_lt k (8 * length bytes)) [
          | inl lt ↦ same k lt ∙ get_or_past items k false (omega (arith, size, h))
          | inr ge ↦ get_or_past (bits bytes) k false (omega (arith, l, ge))
        ];
      },
      ext_get_or false (take n (bits bytes)) items (t ∙ sym size) (λ k k<. get_or-take n (bits bytes) k false (omega (arith, t)) ∙ same k (omega (arith, t, exact))),
    )

-- ---- a byte with items of a word after its own

or_false : (b : Bool) → (b || false) ≡ b
or_false true = refl
or_false false = refl

low_bit : (p m u i : ℕ) (low : List ℕ) → unnum 64 u ≡ replicate p false ++ take (64 - p) (unnum 64 m) → bits low ≡ unnum 64 u → length low ≡ 8 → i < 8 → bit (get_or low 0 0) i ≡ get_or (replicate p false ++ take (64 - p) (unnum 64 m)) i false
low_bit p m u i low up bits-of size h = sym (get_or-bits low 0 i i false (omega (arith, size)) h (omega arith)) ∙ ap (λ (t : List Bool). get_or t i false) (bits-of ∙ up)

pub merged_kept : (byte p m u y i : ℕ) (low : List ℕ) → p < 8 → unnum 64 u ≡ replicate p false ++ take (64 - p) (unnum 64 m) → bits low ≡ unnum 64 u → length low ≡ 8
    → unnum 8 y ≡ zip2 (λ a b. a || b) (unnum 8 byte) (unnum 8 (get_or low 0 0)) → i < p → bit y i ≡ bit byte i
merged_kept byte p m u y i low position up bits-of size is h =
    let none : bit (get_or low 0 0) i ≡ false =
    low_bit p m u i low up bits-of size (omega arith) ∙ (get_or_append_left (replicate p false) (take (64 - p) (unnum 64 m)) false i (omega (arith, length-replicate p false)) ∙ get_or-replicate p i false false h) in
    bit-zip2 8 byte (get_or low 0 0) y i (λ a b. a || b) is (omega arith) ∙ (ap (λ b. bit byte i || b) none ∙ or_false (bit byte i))

pub merged_written : (byte p m u y i : ℕ) (low : List ℕ) → p < 8 → ((j : ℕ) → p ≤ j → j < 8 → bit byte j ≡ false) → unnum 64 u ≡ replicate p false ++ take (64 - p) (unnum 64 m) → bits low ≡ unnum 64 u → length low ≡ 8
    → unnum 8 y ≡ zip2 (λ a b. a || b) (unnum 8 byte) (unnum 8 (get_or low 0 0)) → p + i < 8 → bit y (p + i) ≡ bit m i
merged_written byte p m u y i low position clear up bits-of size is h =
    let at : p + i - p ≡ i = omega arith in
    let some : bit (get_or low 0 0) (p + i) ≡ bit m i =
    low_bit p m u (p + i) low up bits-of size h
    ∙ (get_or-append_right (replicate p false) (take (64 - p) (unnum 64 m)) p (p + i) false (length-replicate p false) (omega arith)
    ∙ (ap (λ j. get_or (take (64 - p) (unnum 64 m)) j false) at ∙ (get_or-take (64 - p) (unnum 64 m) i false (omega arith) ∙ get_or-unnum 64 m i false (omega arith)))) in
    bit-zip2 8 byte (get_or low 0 0) y (p + i) (λ a b. a || b) is h ∙ (ap (λ a. a || bit (get_or low 0 0) (p + i)) (clear (p + i) (omega arith) h) ∙ some)

-- ---- bytes followed by a word

-- an item of a masked word
masked_item : (c m x i : ℕ) → unnum 64 m ≡ take c (unnum 64 x) ++ replicate (64 - c) false → get_or (unnum 64 m) i false ≡ get_or (take c (unnum 64 x)) i false
masked_item c m x i mask = ap (λ (t : List Bool). get_or t i false) mask ∙ get_or-padded (take c (unnum 64 x)) (64 - c) i

-- bits before and after the end of bytes that grew
pub before : (bytes grown more : List ℕ) (k : ℕ) → grown ≡ bytes ++ more → k < 8 * length bytes → get_or (bits grown) k false ≡ get_or (bits bytes) k false
before bytes grown more k e h = ap (λ (b : List Bool). get_or b k false) (ap bits e ∙ bits-append bytes more) ∙ get_or_append_left (bits bytes) (bits more) false k (omega (arith, length-bits bytes))

following : (bytes grown word : List ℕ) (c k : ℕ) → grown ≡ bytes ++ take c word → c ≤ length word → 8 * length bytes ≤ k → k < 8 * (length bytes + c) → get_or (bits grown) k false ≡ get_or (bits word) (k - 8 * length bytes) false
following bytes grown word c k e some h h' =
    ap (λ (b : List Bool). get_or b k false) (ap bits e ∙ bits-append bytes (take c word))
    ∙ (get_or-append_right (bits bytes) (bits (take c word)) (8 * length bytes) k false (length-bits bytes) h
    ∙ (ap (λ (b : List Bool). get_or b (k - 8 * length bytes) false) (sym (take-bits word c some)) ∙ get_or-take (8 * c) (bits word) (k - 8 * length bytes) false (omega arith)))

-- the number of bytes of a word
word_size : (word : List ℕ) (m : ℕ) → bits word ≡ unnum 64 m → length word ≡ 8
word_size word m of = omega (arith, length-bits word, length-unnum 64 m, ap length of)

-- where the items end a byte
pub pushed_whole : (bytes after word : List ℕ) (n c k m x : ℕ) → IsCanonical bytes n → n % 8 ≡ 0 → c ≤ 64 → k ≡ (c + 7) / 8 → after ≡ bytes ++ take k word → bits word ≡ unnum 64 m
    → unnum 64 m ≡ take c (unnum 64 x) ++ replicate (64 - c) false → AreBytes word → Hold after (n + c) (take n (bits bytes) ++ take c (unnum 64 x))
pushed_whole bytes after word n c k m x canonical whole few size e of mask fits =
    let own : List Bool = take n (bits bytes) in
    let new : List Bool = take c (unnum 64 x) in
    let l = length-bits bytes in
    let wide = word_size word m of in
    let u = length-take-le n (bits bytes) (omega (arith, l, canonical.exact)) in
    let v = length-take-le c (unnum 64 x) (omega (arith, length-unnum 64 x)) in
    let t = length-take-le k word (omega (arith, wide)) in
    let a = length-append bytes (take k word) in
    let low : AreBytes after = rw e (append_fits bytes (take k word) canonical.fits (take_fits k word fits)) in
    held after (n + c) (own ++ new) low (omega (arith, length-append own new, u, v)) (omega (arith, ap length e, a, t, canonical.exact)) (λ i i<. elim (cases_lt i n) [
      | inl lt ↦ before bytes after (take k word) i e (omega (arith, canonical.exact)) ∙ sym (get_or_append_left own new false i (omega (arith, u)) ∙ get_or-take n (bits bytes) i false lt)
      | inr ge ↦
          let at : i - 8 * length bytes ≡ i - n = omega (arith, canonical.exact) in
          following bytes after word k i e (omega (arith, wide)) (omega (arith, canonical.exact)) (omega (arith, ap length e, a, t))
          ∙ (ap (λ (b : List Bool). get_or b (i - 8 * length bytes) false) of ∙ (ap (λ j. get_or (unnum 64 m) j false) at ∙ (masked_item c m x (i - n) mask ∙ sym (get_or-append_right own new n i false u ge))))
    ])

-- the last byte of bytes that end within it
last_byte : (bytes grown more : List ℕ) (n z : ℕ) → IsCanonical bytes n → 0 < n % 8 → grown ≡ bytes ++ more → z ≡ get_or grown (n / 8) z → z ≡ get_or bytes (n / 8) 0
last_byte bytes grown more n z canonical some e is =
    let inside : n / 8 < length bytes = omega (arith, canonical.exact) in
    is ∙ (ap (λ (b : List ℕ). get_or b (n / 8) z) e ∙ (get_or_append_left bytes more z (n / 8) inside ∙ get_or_default_zero bytes (n / 8) z inside))

-- it has nothing after its items
pub last_clear : (bytes grown more : List ℕ) (n z i : ℕ) → IsCanonical bytes n → 0 < n % 8 → grown ≡ bytes ++ more → z ≡ get_or grown (n / 8) z → n % 8 ≤ i → i < 8 → bit z i ≡ false
last_clear bytes grown more n z i canonical some e is h h' =
    ap (λ (b : ℕ). bit b i) (last_byte bytes grown more n z canonical some e is)
    ∙ (sym (get_or-bits bytes (n / 8) i (8 * (n / 8) + i) false (omega (arith, canonical.exact)) h' refl) ∙ canonical.clear (8 * (n / 8) + i) (omega arith))

-- where they end within a byte
pub pushed_within : (bytes grown after word : List ℕ) (n c k m r x y z : ℕ) → IsCanonical bytes n → 0 < n % 8 → c ≤ 64 → k ≡ (n % 8 + c + 7) / 8 - 1 → grown ≡ bytes ++ take k word → bits word ≡ unnum 64 r
    → unnum 64 r ≡ drop (8 - n % 8) (unnum 64 m) ++ replicate (8 - n % 8) false → unnum 64 m ≡ take c (unnum 64 x) ++ replicate (64 - c) false → z ≡ get_or grown (n / 8) z
    → ((i : ℕ) → i < n % 8 → bit y i ≡ bit z i) → ((i : ℕ) → n % 8 + i < 8 → bit y (n % 8 + i) ≡ bit m i) → after ≡ set grown (n / 8) y → AreBytes word → y < 256 → Hold after (n + c) (take n (bits bytes) ++ take c (unnum 64 x))
pushed_within bytes grown after word n c k m r x y z canonical some few size e of down mask is kept written was fits y< =
    let own : List Bool = take n (bits bytes) in
    let new : List Bool = take c (unnum 64 x) in
    let l = length-bits bytes in
    let wide = word_size word r of in
    let u = length-take-le n (bits bytes) (omega (arith, l, canonical.exact)) in
    let v = length-take-le c (unnum 64 x) (omega (arith, length-unnum 64 x)) in
    let t = length-take-le k word (omega (arith, wide, size, few)) in
    let g : length grown ≡ length bytes + k = omega (arith, ap length e, length-append bytes (take k word), t) in
    let s : length after ≡ length grown = ap length was ∙ length-set grown (n / 8) y in
    let j< : n / 8 < length grown = omega (arith, g, canonical.exact) in
    let last = last_byte bytes grown (take k word) n z canonical some e is in
    let left : (i : ℕ) → i < n → get_or (own ++ new) i false ≡ get_or (bits bytes) i false =
    λ i lt. get_or_append_left own new false i (omega (arith, u)) ∙ get_or-take n (bits bytes) i false lt in
    let right : (i : ℕ) → n ≤ i → get_or (own ++ new) i false ≡ get_or (unnum 64 m) (i - n) false =
    λ i ge. get_or-append_right own new n i false u ge ∙ sym (masked_item c m x (i - n) mask) in
    let other : (i : ℕ) → i / 8 ≢ n / 8 → i < 8 * length after → get_or (bits after) i false ≡ get_or (bits grown) i false =
    λ i ne lt. get_or-bits_at after i false lt ∙ (ap (λ (b : ℕ). bit b (i % 8)) (ap (λ (b : List ℕ). get_or b (i / 8) 0) was ∙ get_or-set_other grown (n / 8) (i / 8) y 0 ne) ∙ sym (get_or-bits_at grown i false (omega (arith, s)))) in
    let same : (i : ℕ) → i / 8 ≡ n / 8 → get_or (bits after) i false ≡ bit y (i % 8) =
    λ i eq. get_or-bits_at after i false (omega (arith, s, j<, eq)) ∙ ap (λ (b : ℕ). bit b (i % 8)) (ap (λ (b : List ℕ). get_or b (i / 8) 0) was ∙ (ap (λ j. get_or (set grown (n / 8) y) j 0) eq ∙ get_or-set_same grown (n / 8) y 0 j<)) in
    let low : AreBytes after = rw was (set_fits grown (n / 8) y (rw e (append_fits bytes (take k word) canonical.fits (take_fits k word fits))) y<) in
    held after (n + c) (own ++ new) low (omega (arith, length-append own new, u, v)) (omega (arith, s, g, size, canonical.exact)) (λ i i<. elim (cases_eq (i / 8) (n / 8)) [
      | inl eq ↦ elim (cases_lt i n) [
        | inl lt ↦
            same i eq ∙ (kept (i % 8) (omega arith) ∙ (ap (λ (b : ℕ). bit b (i % 8)) last
            ∙ (ap (λ j. bit (get_or bytes j 0) (i % 8)) (sym eq) ∙ (sym (get_or-bits_at bytes i false (omega (arith, canonical.exact))) ∙ sym (left i lt)))))
        | inr ge ↦
            let at : i % 8 ≡ n % 8 + (i - n) = omega arith in
            same i eq ∙ (ap (bit y) at ∙ (written (i - n) (omega arith) ∙ (sym (get_or-unnum 64 m (i - n) false (omega arith)) ∙ sym (right i ge))))
      ]
      | inr ne ↦ elim (cases_lt i n) [
        | inl lt ↦ other i ne i< ∙ (before bytes grown (take k word) i e (omega (arith, canonical.exact)) ∙ sym (left i lt))
        | inr ge ↦
            let at : (8 - n % 8) + (i - 8 * length bytes) ≡ i - n = omega (arith, canonical.exact) in
            other i ne i<
            ∙ (following bytes grown word k i e (omega (arith, wide, size, few)) (omega (arith, canonical.exact)) (omega (arith, s, g))
            ∙ (ap (λ (b : List Bool). get_or b (i - 8 * length bytes) false) (of ∙ down)
            ∙ (get_or-padded (drop (8 - n % 8) (unnum 64 m)) (8 - n % 8) (i - 8 * length bytes) ∙ (get_or-drop (8 - n % 8) (unnum 64 m) (i - 8 * length bytes) false ∙ (ap (λ j. get_or (unnum 64 m) j false) at ∙ sym (right i ge))))))
      ]
    ])
