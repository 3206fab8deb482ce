-- The text of bits, byte by byte.
use Rattle.std.proofs.Common.{◌≡◌, inl, inr, ℕ, zero, suc, ◌+◌, ◌-◌, ◌*◌, ◌<◌, ◌≤◌, List, [], ◌∷◌, ◌++◌, Bool, true, false, map, length, get_or, refl, ap, sym, ◌∙◌, arith, min, reverse, filter, codes, nat_lt, take, ◌/◌}
use Rattle.std.specs.Char.{encode_utf8}
use Rattle.std.specs.List.{range_with_len, list_any, join_by, flat_map}
use Rattle.std.proofs.lemmas.Bool.{cases_lt, le-leb, lt-leb, lt-ltb, le-ltb}
use Rattle.std.proofs.lemmas.List.{append-nil, append_assoc, map_push, length-take-le, get_or-take}
use mathlib.Core.List.{reverse-cons}
use Rattle.std.proofs.lemmas.List.Concat.{flat_map-append}
use Rattle.std.proofs.lemmas.List.FromFn.{length-range_with_len, get_or-range_with_len}
use Rattle.std.proofs.lemmas.List.Folds.{list_any_at}
use Rattle.std.proofs.lemmas.Str.{encode_ascii}
use Rattle.arrow2_model.specs.Lists.{bit, bits}
use Rattle.arrow2_model.specs.Shown.{is_shown, bit_character, shown_byte, shown_indices, shown, items_byte, items_text}
use Rattle.arrow2_model.proofs.Bits.{get_or-bits, length-bits}

-- ---- one bit

shown_yes : (offset len p : ℕ) → offset ≤ p → p < offset + len → is_shown offset len p ≡ true
shown_yes offset len p h g = rw (le-leb offset p h, lt-ltb p (offset + len) g) refl

shown_before : (offset len p : ℕ) → p < offset → is_shown offset len p ≡ false
shown_before offset len p h = rw (lt-leb offset p h) refl

shown_following : (offset len p : ℕ) → offset + len ≤ p → is_shown offset len p ≡ false
shown_following offset len p h = rw (le-leb offset p (omega arith), le-ltb p (offset + len) h) refl

-- the same index, counted from the start of its byte
shown_alone : (offset len j i start here : ℕ) → i < 8 → offset < 8 → start ≡ offset - 8 * j → here ≡ min (len - (8 * j - offset)) (8 - start) → is_shown start here i ≡ is_shown offset len (8 * j + i)
shown_alone offset len j i start here h o s e = elim (cases_lt i start) [
  | inl before ↦ shown_before start here i before ∙ sym (shown_before offset len (8 * j + i) (omega arith))
  | inr from ↦ elim (cases_lt i (start + here)) [
    | inl within ↦ shown_yes start here i from within ∙ sym (shown_yes offset len (8 * j + i) (omega arith) (omega arith))
    | inr following ↦ shown_following start here i following ∙ sym (shown_following offset len (8 * j + i) (omega arith))
  ]
]

-- its character is one byte
pub encode_bit_character : (shows value : Bool) → encode_utf8 (bit_character shows value) ≡ bit_character shows value ∷ []
encode_bit_character false value = encode_ascii 95 (omega arith)
encode_bit_character true false = encode_ascii 48 (omega arith)
encode_bit_character true true = encode_ascii 49 (omega arith)

-- ---- one byte

-- functions that agree index by index
map_reversed : (f g : ℕ → ℕ) (a b n : ℕ) → ((i j k : ℕ) → i < n → j ≡ a + i → k ≡ b + i → f j ≡ g k) → map f (reverse (range_with_len a n)) ≡ map g (reverse (range_with_len b n))
map_reversed f g a b zero h = refl
map_reversed f g a b (suc n) h =
    let rest = map_reversed f g (a + 1) (b + 1) n (λ i j k lt x y. h (suc i) j k (omega arith) (omega arith) (omega arith)) in
    let last : f a ≡ g b = h 0 a b (omega arith) (omega arith) (omega arith) in
    ap (map f) (reverse-cons a (range_with_len (a + 1) n)) ∙
    (map_push f (reverse (range_with_len (a + 1) n)) a ∙
    (rw (rest, last) (sym (map_push g (reverse (range_with_len (b + 1) n)) b) ∙ ap (map g) (sym (reverse-cons b (range_with_len (b + 1) n))))))

-- `0b`, and the characters of the n bits from bit p on, the highest first
unfoldable pub shown_bits : List ℕ → ℕ → ℕ → ℕ → ℕ → List ℕ
shown_bits bytes offset len p n = codes "0b" ++ map (λ q. bit_character (is_shown offset len q) (get_or (bits bytes) q false)) (reverse (range_with_len p n))

pub shown_bits_none : (bytes : List ℕ) (offset len p n : ℕ) → n ≡ 0 → codes "0b" ≡ shown_bits bytes offset len p n
unfolding shown_bits
shown_bits_none bytes offset len p n e = rw e (sym (append-nil (codes "0b")))

-- one bit more, below the others
pub shown_bits_more : (bytes : List ℕ) (offset len p q n m : ℕ) → q ≡ p + 1 → m ≡ n + 1 → shown_bits bytes offset len p m ≡ shown_bits bytes offset len q n ++ bit_character (is_shown offset len p) (get_or (bits bytes) p false) ∷ []
unfolding shown_bits
shown_bits_more bytes offset len p q n m e f =
    let c : ℕ → ℕ = λ r. bit_character (is_shown offset len r) (get_or (bits bytes) r false) in
    let g : m ≡ suc n = omega arith in
    rw (e, g) (ap (λ t. codes "0b" ++ t) (ap (map c) (reverse-cons p (range_with_len (p + 1) n)) ∙ map_push c (reverse (range_with_len (p + 1) n)) p) ∙
    sym (append_assoc (codes "0b") (map c (reverse (range_with_len (p + 1) n))) (c p ∷ [])))

-- all eight bits of a byte that stands alone
pub shown_bits_all : (byte offset len p n : ℕ) → p ≡ 0 → n ≡ 8 → shown_bits (byte ∷ []) offset len p n ≡ shown_byte (byte ∷ []) offset len 0
unfolding shown_bits shown_byte
shown_bits_all byte offset len p n e f = rw (e, f) refl

-- a bit of a byte that stands alone
pub bit_alone : (byte i : ℕ) → i < 8 → get_or (bits (byte ∷ [])) i false ≡ bit byte i
bit_alone byte i h = get_or-bits (byte ∷ []) 0 i i false (omega arith) h (omega arith)

-- byte j of bytes is shown as the byte alone is, from its own start on and with the shown bits that are left in it
pub shown_byte_alone : (bytes : List ℕ) (byte offset len j start here : ℕ) → j < length bytes → byte ≡ get_or bytes j 0 → offset < 8 → start ≡ offset - 8 * j → here ≡ min (len - (8 * j - offset)) (8 - start) → shown_byte (byte ∷ []) start here 0 ≡ shown_byte bytes offset len j
unfolding shown_byte
shown_byte_alone bytes byte offset len j start here h is o s e =
    ap (λ t. codes "0b" ++ t) (map_reversed
    (λ q. bit_character (is_shown start here q) (get_or (bits (byte ∷ [])) q false))
    (λ q. bit_character (is_shown offset len q) (get_or (bits bytes) q false))
    0 (8 * j) 8
    (λ i q r lt x y.
    let at : q ≡ i = omega arith in
    let value : get_or (bits (byte ∷ [])) i false ≡ get_or (bits bytes) (8 * j + i) false =
    bit_alone byte i lt ∙ (ap (λ b. bit b i) is ∙ sym (get_or-bits bytes j i (8 * j + i) false h lt (omega arith))) in
    let position : is_shown start here i ≡ is_shown offset len (8 * j + i) = shown_alone offset len j i start here lt o s e in
    rw (at, y, value, position) refl))

-- ---- the bytes that hold a shown bit

-- a test that holds of the first items of a range, and of none after them
filter_front : (test : ℕ → Bool) (a n m : ℕ) → m ≤ n → ((k : ℕ) → a ≤ k → k < a + m → test k ≡ true) → ((k : ℕ) → a + m ≤ k → test k ≡ false) → filter test (range_with_len a n) ≡ range_with_len a m
filter_front test a zero zero h holds fails = refl
filter_front test a zero (suc m) h holds fails = absurd (omega arith)
filter_front test a (suc n) zero h holds fails =
    let e : test a ≡ false = fails a (omega arith) in
    rw e (filter_front test (a + 1) n 0 (omega arith) (λ k x y. absurd (omega arith)) (λ k x. fails k (omega arith)))
filter_front test a (suc n) (suc m) h holds fails =
    let e : test a ≡ true = holds a (omega arith) (omega arith) in
    rw e (ap (λ l. a ∷ l) (filter_front test (a + 1) n m (omega arith) (λ k x y. holds k (omega arith) (omega arith)) (λ k x. fails k (omega arith))))

any_at : (test : ℕ → Bool) (a n p : ℕ) → a ≤ p → p < a + n → test p ≡ true → list_any test (range_with_len a n) ≡ true
any_at test a n p h g e =
    let l = length-range_with_len a n in
    let at : get_or (range_with_len a n) (p - a) 0 ≡ p = get_or-range_with_len a n (p - a) 0 (omega arith) ∙ omega arith in
    list_any_at test (range_with_len a n) (p - a) 0 (omega (arith, l)) (ap test at ∙ e)

any_none : (test : ℕ → Bool) (a n : ℕ) → ((p : ℕ) → a ≤ p → p < a + n → test p ≡ false) → list_any test (range_with_len a n) ≡ false
any_none test a zero fails = refl
any_none test a (suc n) fails = rw (fails a (omega arith) (omega arith)) (any_none test (a + 1) n (λ p x y. fails p (omega arith) (omega arith)))

-- the bytes that hold a shown bit, where they are the first j
shown_positions_are : (bytes : List ℕ) (offset len j : ℕ) → offset < 8 → j ≤ length bytes → j ≤ len → 8 * j < offset + len + 8 → len ≤ 8 * j - offset → shown_indices bytes offset len ≡ range_with_len 0 j
unfolding shown_indices
shown_positions_are bytes offset len j o within each last all =
    filter_front (λ k. list_any (is_shown offset len) (range_with_len (8 * k) 8)) 0 (length bytes) j within
    (λ k x y. any_at (is_shown offset len) (8 * k) 8 (8 * k + (offset - 8 * k)) (omega arith) (omega arith) (shown_yes offset len (8 * k + (offset - 8 * k)) (omega arith) (omega arith)))
    (λ k x. any_none (is_shown offset len) (8 * k) 8 (λ p y z. elim (cases_lt p offset) [
      | inl before ↦ shown_before offset len p before
      | inr from ↦ shown_following offset len p (omega arith)
    ]))

-- ---- the whole text

-- `[`, and the first j bytes, joined
unfoldable pub shown_front : List ℕ → ℕ → ℕ → ℕ → List ℕ
shown_front bytes offset len j = codes "[" ++ join_by (shown_byte bytes offset len) (codes ", ") (range_with_len 0 j)

pub shown_front_none : (bytes : List ℕ) (offset len : ℕ) → codes "[" ≡ shown_front bytes offset len 0
unfolding shown_front
shown_front_none bytes offset len = sym (append-nil (codes "["))

pub shown_front_first : (bytes : List ℕ) (offset len j k : ℕ) → j ≡ 0 → k ≡ j + 1 → shown_front bytes offset len k ≡ shown_front bytes offset len j ++ shown_byte bytes offset len j
unfolding shown_front
shown_front_first bytes offset len j k e f =
    let g : k ≡ 1 = omega arith in
    rw (e, g) (ap (λ t. codes "[" ++ t) (append-nil (shown_byte bytes offset len 0)) ∙ ap (λ t. t ++ shown_byte bytes offset len 0) (sym (append-nil (codes "["))))

joined_more : (f : ℕ → List ℕ) (separator : List ℕ) (x y : ℕ) (xs : List ℕ) → join_by f separator ((x ∷ xs) ++ y ∷ []) ≡ join_by f separator (x ∷ xs) ++ (separator ++ f y)
joined_more f separator x y xs =
    let g : ℕ → List ℕ = λ z. separator ++ f z in
    ap (λ t. f x ++ t) (flat_map-append g xs (y ∷ []) ∙ ap (λ t. flat_map g xs ++ t) (append-nil (g y))) ∙ sym (append_assoc (f x) (flat_map g xs) (g y))

range_more : (a n : ℕ) → range_with_len a (suc n) ≡ range_with_len a n ++ (a + n) ∷ []
range_more a zero = let e : a ≡ a + 0 = omega arith in ap (λ k. k ∷ []) e
range_more a (suc n) = let e : a + 1 + n ≡ a + suc n = omega arith in ap (λ l. a ∷ l) (range_more (a + 1) n ∙ ap (λ k. range_with_len (a + 1) n ++ k ∷ []) e)

joined_range : (f : ℕ → List ℕ) (separator : List ℕ) (j : ℕ) → 0 < j → join_by f separator (range_with_len 0 (suc j)) ≡ join_by f separator (range_with_len 0 j) ++ (separator ++ f j)
joined_range f separator zero h = absurd (omega arith)
joined_range f separator (suc i) h =
    let e : 0 + suc i ≡ suc i = omega arith in
    ap (join_by f separator) (range_more 0 (suc i) ∙ ap (λ k. range_with_len 0 (suc i) ++ k ∷ []) e) ∙ joined_more f separator 0 (suc i) (range_with_len 1 i)

pub shown_front_more : (bytes : List ℕ) (offset len j k : ℕ) → 0 < j → k ≡ j + 1 → shown_front bytes offset len k ≡ shown_front bytes offset len j ++ (codes ", " ++ shown_byte bytes offset len j)
unfolding shown_front
shown_front_more bytes offset len j k h e =
    let s : k ≡ suc j = omega arith in
    rw s (ap (λ t. codes "[" ++ t) (joined_range (shown_byte bytes offset len) (codes ", ") j h) ∙
    sym (append_assoc (codes "[") (join_by (shown_byte bytes offset len) (codes ", ") (range_with_len 0 j)) (codes ", " ++ shown_byte bytes offset len j)))

-- the front that holds every shown bit, closed
pub shown_is : (bytes : List ℕ) (offset len j : ℕ) → offset < 8 → j ≤ length bytes → j ≤ len → 8 * j < offset + len + 8 → len ≤ 8 * j - offset → shown bytes offset len ≡ shown_front bytes offset len j ++ codes "]"
unfolding shown_front shown
shown_is bytes offset len j o within each last all =
    rw (shown_positions_are bytes offset len j o within each last all) (sym (append_assoc (codes "[") (join_by (shown_byte bytes offset len) (codes ", ") (range_with_len 0 j)) (codes "]")))

-- no bits
pub shown_none : (bytes : List ℕ) (offset : ℕ) → shown bytes offset 0 ≡ codes "[]"
unfolding shown shown_indices
shown_none bytes offset =
    let positions = filter_front (λ k. list_any (is_shown offset 0) (range_with_len (8 * k) 8)) 0 (length bytes) 0 (omega arith)
    (λ k x y. absurd (omega arith))
    (λ k x. any_none (is_shown offset 0) (8 * k) 8 (λ p y z. elim (cases_lt p offset) [
      | inl before ↦ shown_before offset 0 p before
      | inr from ↦ shown_following offset 0 p (omega arith)
    ])) in
    rw positions refl

-- ---- the text of a list

map_same : (f g : ℕ → ℕ) → ((p : ℕ) → f p ≡ g p) → (xs : List ℕ) → map f xs ≡ map g xs
map_same f g same [] = refl
map_same f g same (x ∷ xs) = let e = same x in let r = map_same f g same xs in cc

flat_same : (f g : ℕ → List ℕ) → ((j : ℕ) → f j ≡ g j) → (xs : List ℕ) → flat_map f xs ≡ flat_map g xs
flat_same f g same [] = refl
flat_same f g same (x ∷ xs) = ap (λ t. t ++ flat_map f xs) (same x) ∙ ap (λ t. g x ++ t) (flat_same f g same xs)

joined_same : (f g : ℕ → List ℕ) (separator : List ℕ) → ((j : ℕ) → f j ≡ g j) → (xs : List ℕ) → join_by f separator xs ≡ join_by g separator xs
joined_same f g separator same [] = refl
joined_same f g separator same (x ∷ xs) = ap (λ t. t ++ flat_map (λ z. separator ++ f z) xs) (same x) ∙ ap (λ t. g x ++ t) (flat_same (λ z. separator ++ f z) (λ z. separator ++ g z) (λ z. ap (λ t. separator ++ t) (same z)) xs)

-- a shown bit is the item there, and one that is not shown has no item
character_same : (bytes : List ℕ) (n p : ℕ) → n ≤ 8 * length bytes → bit_character (is_shown 0 n p) (get_or (bits bytes) p false) ≡ bit_character (nat_lt p (length (take n (bits bytes)))) (get_or (take n (bits bytes)) p false)
character_same bytes n p h =
    let long : length (take n (bits bytes)) ≡ n = length-take-le n (bits bytes) (omega (arith, h, length-bits bytes)) in
    rw long (elim (cases_lt p n) [
      | inl within ↦ rw (shown_yes 0 n p (omega arith) (omega arith), lt-ltb p n within, get_or-take n (bits bytes) p false within) refl
      | inr following ↦ rw (shown_following 0 n p (omega arith), le-ltb p n following) refl
    ])

byte_same : (bytes : List ℕ) (n j : ℕ) → n ≤ 8 * length bytes → shown_byte bytes 0 n j ≡ items_byte (take n (bits bytes)) j
unfolding shown_byte
byte_same bytes n j h = ap (λ t. codes "0b" ++ t) (map_same (λ p. bit_character (is_shown 0 n p) (get_or (bits bytes) p false)) (λ p. bit_character (nat_lt p (length (take n (bits bytes)))) (get_or (take n (bits bytes)) p false)) (λ p. character_same bytes n p h) (reverse (range_with_len (8 * j) 8)))

-- the text of the first n bits is that of the list of them
pub shown-items : (bytes : List ℕ) (n : ℕ) → n ≤ 8 * length bytes → shown bytes 0 n ≡ items_text (take n (bits bytes))
unfolding shown
shown-items bytes n h =
    let j : ℕ = (n + 7) / 8 in
    let long : length (take n (bits bytes)) ≡ n = length-take-le n (bits bytes) (omega (arith, h, length-bits bytes)) in
    rw (long, shown_positions_are bytes 0 n j (omega arith) (omega (arith, h)) (omega arith) (omega arith) (omega arith))
    (ap (λ t. codes "[" ++ (t ++ codes "]")) (joined_same (shown_byte bytes 0 n) (items_byte (take n (bits bytes))) (codes ", ") (λ k. byte_same bytes n k h) (range_with_len 0 j)))

pub ruleset texts = (shown_none, shown-items)
