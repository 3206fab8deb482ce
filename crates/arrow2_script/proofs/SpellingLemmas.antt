-- Words that spell numbers, slots, bits and texts of bits.
use Rattle.std.proofs.Common.{◌≡◌, refl, ◌/◌, ◌%◌, ◌<◌, ◌^◌, ℕ, suc, List, [], ◌∷◌, length, Bool, true, false, ◌&&◌, not, arith, eqb, map, length-append, Option, Some, None, IfSome, decimal}
use Rattle.std.specs.List.{All, list_any, list_all, join_with_byte, flat_map}
use Rattle.std.proofs.lemmas.Bool.{not-true}
use Rattle.std.proofs.lemmas.List.Folds.{list_all-append}
use Rattle.std.specs.Str.Parse.{AllDigits}
use Rattle.std.proofs.lemmas.Str.Parse.{digit_from_value}
use Rattle.std.proofs.lemmas.Fmt.{decimal_is_IsNumeral}
use Rattle.arrow2_script.specs.Lines.{is_blank}
use Rattle.arrow2_script.specs.Words.{bit_byte, bits_text, optional_slot_word, numbers_text, width_word, hex_digit, hex_digits, hex_text}
use Rattle.arrow2_script.specs.declared.words.Width.{Width}
use Rattle.arrow2_script.proofs.WordLemmas.{both}
use Rattle.arrow2_script.specs.declared.words.Width.TheVariants.{Bits8, Bits16, Bits32, Bits64}

-- one byte or more, none of them 32
unfoldable pub is_word : List ℕ → Bool
is_word word = not (is_blank word) && list_all (λ b. not (eqb b 32)) word

pub filled : (bytes : List ℕ) → 0 < length bytes → is_blank bytes ≡ false
filled bytes some = grind (arith, some)

digits_spaceless : (digits : List ℕ) → AllDigits 10 digits → list_all (λ b. not (eqb b 32)) digits ≡ true
digits_spaceless [] all = refl
digits_spaceless (d ∷ digits) all =
    let range = digit_from_value d all.0 in
    let other : eqb d 32 ≡ false = grind (arith, range.0) in
    rw (other, digits_spaceless digits all.1) refl

pub number_word : (n : ℕ) → n < 2 ^ 64 → is_word (decimal n) ≡ true
unfolding is_word
number_word n h =
    let is = (decimal_is_IsNumeral n h).0 in
    rw (filled (decimal n) is.0, digits_spaceless (decimal n) is.1) refl

pub optional_slot_is_word : (slot : Option ℕ) → IfSome slot (λ n. n < 16) → is_word (optional_slot_word slot) ≡ true
unfolding is_word
optional_slot_is_word None fits = refl
optional_slot_is_word (Some n) fits = number_word n (omega (arith, fits))

bits_spaceless : (items : List Bool) → list_all (λ b. not (eqb b 32)) (map bit_byte items) ≡ true
bits_spaceless [] = refl
bits_spaceless (true ∷ items) = bits_spaceless items
bits_spaceless (false ∷ items) = bits_spaceless items

pub bits_word : (items : List Bool) → is_word (bits_text items) ≡ true
unfolding is_word
bits_word [] = refl
bits_word (item ∷ items) = rw (filled (map bit_byte (item ∷ items)) (omega arith), bits_spaceless (item ∷ items)) refl

pub bit_word : (bit : Bool) → is_word (bit_byte bit ∷ []) ≡ true
unfolding is_word
bit_word true = refl
bit_word false = refl

numbers_spaceless : (n : ℕ) (ns : List ℕ) → All (λ m. m < 2 ^ 64) (n ∷ ns) → list_all (λ b. not (eqb b 32)) (join_with_byte 44 (map decimal (n ∷ ns))) ≡ true
numbers_spaceless n [] all = digits_spaceless (decimal n) (decimal_is_IsNumeral n (all 0 0 (omega arith))).0.1
numbers_spaceless n (m ∷ ns) all =
    let first = digits_spaceless (decimal n) (decimal_is_IsNumeral n (all 0 0 (omega arith))).0.1 in
    let others = numbers_spaceless m ns (λ k d h. all (suc k) d (omega arith)) in
    rw (list_all-append (λ b. not (eqb b 32)) (decimal n) (44 ∷ join_with_byte 44 (map decimal (m ∷ ns))), first, others) refl

some_numbers : (n : ℕ) (ns : List ℕ) → n < 2 ^ 64 → 0 < length (join_with_byte 44 (map decimal (n ∷ ns)))
some_numbers n [] h = (decimal_is_IsNumeral n h).0.0
some_numbers n (m ∷ ns) h = omega (arith, length-append (decimal n) (44 ∷ join_with_byte 44 (map decimal (m ∷ ns))))

pub numbers_word : (ns : List ℕ) → All (λ m. m < 2 ^ 64) ns → is_word (numbers_text ns) ≡ true
unfolding is_word
numbers_word [] all = refl
numbers_word (n ∷ ns) all = rw (filled (join_with_byte 44 (map decimal (n ∷ ns))) (some_numbers n ns (all 0 0 (omega arith))), numbers_spaceless n ns all) refl

pub width_is_word : (width : Width) → is_word (width_word width) ≡ true
unfolding is_word
width_is_word Bits8 = refl
width_is_word Bits16 = refl
width_is_word Bits32 = refl
width_is_word Bits64 = refl

hex_spaceless : (bytes : List ℕ) → All (λ b. b < 256) bytes → list_all (λ b. not (eqb b 32)) (flat_map hex_digits bytes) ≡ true
hex_spaceless [] all = refl
hex_spaceless (b ∷ bytes) all =
    let high : eqb (hex_digit (b / 16)) 32 ≡ false = grind arith in
    let low : eqb (hex_digit (b % 16)) 32 ≡ false = grind arith in
    rw (high, low, hex_spaceless bytes (λ k d h. all (suc k) d (omega arith))) refl

pub hex_word : (bytes : List ℕ) → All (λ b. b < 256) bytes → is_word (hex_text bytes) ≡ true
unfolding is_word
hex_word [] all = refl
hex_word (b ∷ bytes) all = rw (filled (hex_text (b ∷ bytes)) (omega arith), hex_spaceless (b ∷ bytes) all) refl

-- words are not blank
pub words_there : (words : List (List ℕ)) → list_all is_word words ≡ true → list_any is_blank words ≡ false
unfolding is_word
words_there [] e = refl
words_there (word ∷ words) e =
    let p = both (is_word word) (list_all is_word words) e in
    let q = both (not (is_blank word)) (list_all (λ b. not (eqb b 32)) word) p.0 in
    rw (not-true (is_blank word) q.0, words_there words p.1) refl
