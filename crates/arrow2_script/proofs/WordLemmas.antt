-- The value of a word, and the one word that spells it.
use Rattle.std.proofs.Common.{map, codes, eqb, ◌≡◌, ◌∙◌, sym, ap, subst, refl, ◌<◌, ◌≤◌, ◌^◌, ℕ, zero, suc, List, [], ◌∷◌, length, get_or, Bool, true, false, cond, ◌&&◌, ◌⊎◌, inl, inr, arith, lit<, Option, Some, None, option_map, IfSome, IfNone, nat_lt, bytes_eq, decimal}
use Rattle.std.specs.Str.Parse.{digits_value, AllDigits}
use Rattle.std.proofs.lemmas.Fmt.{decimal_is_IsNumeral, decimal-digits_value, first_decimal, decimal_digit}
use Rattle.std.proofs.lemmas.Str.Parse.{numerals_by_value, tells_digits, IsNumeralModel, digit_from_value}
use Rattle.std.proofs.lemmas.Slice.Eq.{bytes_eq-Decides}
use Rattle.std.specs.List.{list_all}
use Rattle.std.proofs.lemmas.Option.{option_and_then_some, cond_some, same_Some, none-some}
use Rattle.arrow2_script.specs.declared.words.Width.{Width}
use Rattle.arrow2_script.specs.declared.words.Width.TheVariants.{Bits8, Bits16, Bits32, Bits64}
use Rattle.arrow2_script.specs.Words.{number_of, below_of, slot_of, optional_slot_word, optional_slot_of, width_word, width_of, bit_of, bits_of, bit_byte, bits_text, is_bit_byte, items_of_digits}

-- a number's own word spells it
pub number_of-decimal : (n : ℕ) → n < 2 ^ 64 → number_of (decimal n) ≡ Some n
unfolding number_of
number_of-decimal n h =
    let value = (decimal_is_IsNumeral n h).1 in
    let fits : nat_lt n (2 ^ 64) ≡ true = grind (arith, h) in
    let same : bytes_eq (decimal n) (decimal n) ≡ true = (bytes_eq-Decides (decimal n) (decimal n)).1 refl in
    rw (value, fits, same) refl

pub both : (a b : Bool) → (a && b) ≡ true → (a ≡ true) × (b ≡ true)
both true true e = (refl, refl)
both true false e = cc
both false b e = cc

-- a word that spells a number is its decimal digits
pub decimal-number_of : (word : List ℕ) (n : ℕ) → number_of word ≡ Some n → (n < 2 ^ 64) × (decimal n ≡ word)
unfolding number_of
decimal-number_of word n e =
    let v = digits_value 10 word in
    let p = cond_some (nat_lt v (2 ^ 64) && bytes_eq (decimal v) word) v n e in
    let q = both (nat_lt v (2 ^ 64)) (bytes_eq (decimal v) word) p.0 in
    let fits : v < 2 ^ 64 = grind (arith, q.0) in
    (rw (← p.1) fits, rw (← p.1) ((bytes_eq-Decides (decimal v) word).0 q.1))

-- the value before it was mapped
pub mapped : {A B : Type 0} (f : A → B) (o : Option A) (y : B) → option_map f o ≡ Some y → (x : A) × (o ≡ Some x) × (f x ≡ y)
mapped f None y e = absurd (none-some y e)
mapped f (Some x) y e = (x, refl, same_Some (f x) y e)

-- a value is there, or not
pub some_or_none : {X : Type 0} (o : Option X) → ((x : X) × (o ≡ Some x)) ⊎ (o ≡ None)
some_or_none None = inr refl
some_or_none (Some x) = inl (x, refl)

-- a word spells no number where it is no number's digits
pub number_of-none : (word : List ℕ) → ((n : ℕ) → n < 2 ^ 64 → decimal n ≡ word → ⊥) → number_of word ≡ None
number_of-none word never = elim (some_or_none (number_of word)) [
  | inl p ↦ let d = decimal-number_of word p.0 p.1 in absurd (never p.0 d.0 d.1)
  | inr e ↦ e
]

-- the first digit of a number is not 0 where more follow it
first_digit : (n : ℕ) → n < 2 ^ 64 → 1 < length (decimal n) → get_or (decimal n) 0 0 ≡ 48 → ⊥
first_digit zero h more e = let l = ap length (decimal_digit 0 (lit< tt)) in omega (arith, l, more)
first_digit (suc n) h more e =
    let above : 0 < suc n = omega arith in
    let first = first_decimal (suc n) above h in
    omega (arith, first, e)

pub number_of-leading_zero : (word : List ℕ) → 1 < length word → get_or word 0 0 ≡ 48 → number_of word ≡ None
number_of-leading_zero word more is = number_of-none word (λ n h e. first_digit n h (rw e more) (rw e is))

pub number_of-empty : (word : List ℕ) → length word ≡ 0 → number_of word ≡ None
number_of-empty word empty = number_of-none word (λ n h e. let some = (decimal_is_IsNumeral n h).0.0 in let l = ap length e in omega (arith, some, l, empty))

own : IsNumeralModel (AllDigits 10) (digits_value 10)
own = numerals_by_value (AllDigits 10) tells_digits

-- the number of a word's digits, where the first of several is not 0
pub number_of-digits : (word : List ℕ) (r : Option ℕ) → 0 < length word → ¬ ((1 < length word) × (get_or word 0 0 ≡ 48))
    → IfSome r (λ n. AllDigits 10 word × (n ≡ digits_value 10 word)) → IfSome r (λ n. n < 2 ^ 64)
    → IfNone r (¬ (AllDigits 10 word × (digits_value 10 word < 2 ^ 64))) → r ≡ number_of word
number_of-digits word (Some n) some plain parsed fits rejected =
    let one : get_or word 0 0 ≡ 48 → length word ≡ 1 = λ e. let short : 1 < length word → ⊥ = λ l. plain (l, e) in omega (arith, short, some) in
    let small : digits_value 10 word < 2 ^ 64 = rw (← parsed.1) fits in
    let same = decimal-digits_value own word parsed.0 some one small in
    ap Some parsed.1 ∙ sym (ap number_of (sym same) ∙ number_of-decimal (digits_value 10 word) small)
number_of-digits word None some plain parsed fits rejected =
    sym (number_of-none word (λ n h e.
    let is = decimal_is_IsNumeral n h in
    rejected (rw e at is.0.1, let v : digits_value 10 word ≡ n = ap (digits_value 10) (sym e) ∙ is.1 in omega (arith, v, h))))

-- the word of a number below a bound
pub below_of-decimal : (bound n : ℕ) → bound ≤ 2 ^ 64 → n < bound → below_of bound (decimal n) ≡ Some n
below_of-decimal bound n most h =
    let wide : n < 2 ^ 64 = omega (arith, most, h) in
    let fits : nat_lt n bound ≡ true = grind (arith, h) in
    rw (number_of-decimal n wide, fits) refl

pub decimal-below_of : (bound : ℕ) (word : List ℕ) (n : ℕ) → below_of bound word ≡ Some n → (n < bound) × (decimal n ≡ word)
decimal-below_of bound word n e = option_and_then_some {P = (n < bound) × (decimal n ≡ word)} (λ x. cond (nat_lt x bound) (Some x) None) (number_of word) n e
    (λ x parsed kept.
    let p = cond_some (nat_lt x bound) x n kept in
    let fits : x < bound = grind (arith, p.0) in
    (rw (← p.1) fits, rw (← p.1) (decimal-number_of word x parsed).1))

-- a slot's word
pub slot_of-decimal : (n : ℕ) → n < 16 → slot_of (decimal n) ≡ Some n
slot_of-decimal n h = below_of-decimal 16 n (omega arith) h

pub decimal-slot_of : (word : List ℕ) (n : ℕ) → slot_of word ≡ Some n → (n < 16) × (decimal n ≡ word)
decimal-slot_of word n e = decimal-below_of 16 word n e

-- a choice between two values
pub choice : {X : Type 0} (b : Bool) (x y z : X) → cond b x y ≡ z → ((b ≡ true) × (x ≡ z)) ⊎ ((b ≡ false) × (y ≡ z))
choice true x y z e = inl (refl, e)
choice false x y z e = inr (refl, e)

-- a row of a table of words: a fact that holds of the value of a known word, and of those of the next rows, holds of
-- the value
pub at_word : {A : Type 0} (P : A → Type 0) (word known : List ℕ) (one x : A) (next : Option A) → (word ≡ known → P one) → (next ≡ Some x → P x) → cond (bytes_eq word known) (Some one) next ≡ Some x → P x
at_word P word known one x next first others e = elim (choice (bytes_eq word known) (Some one) next (Some x) e) [
  | inl p ↦ subst P (same_Some one x p.1) (first ((bytes_eq-Decides word known).0 p.0))
  | inr p ↦ others p.1
]

-- words that differ
pub other_than : (a b : List ℕ) → (a ≡ b → ⊥) → bytes_eq a b ≡ false
other_than a b never = elim (choice (bytes_eq a b) true false (bytes_eq a b) (cond_same (bytes_eq a b))) [
  | inl p ↦ absurd (never ((bytes_eq-Decides a b).0 p.0))
  | inr p ↦ p.0
]
  where
    cond_same : (b : Bool) → cond b true false ≡ b
    cond_same true = refl
    cond_same false = refl

-- `-` is no number's word
pub no_dash : (n : ℕ) → n < 2 ^ 64 → decimal n ≡ codes "-" → ⊥
no_dash n h e =
    let digits : AllDigits 10 (codes "-") = rw e at (decimal_is_IsNumeral n h).0.1 in
    let range = digit_from_value 45 digits.0 in
    omega (arith, range.0)

-- the word of a slot that may be left out
pub optional_slot_of-word : (slot : Option ℕ) → IfSome slot (λ n. n < 16) → optional_slot_of (optional_slot_word slot) ≡ Some slot
unfolding optional_slot_of
optional_slot_of-word None fits = refl
optional_slot_of-word (Some n) fits = rw (other_than (decimal n) (codes "-") (no_dash n (omega (arith, fits))), slot_of-decimal n fits) refl

pub word-optional_slot_of : (word : List ℕ) (slot : Option ℕ) → optional_slot_of word ≡ Some slot → IfSome slot (λ n. n < 16) × (optional_slot_word slot ≡ word)
unfolding optional_slot_of
word-optional_slot_of word slot = at_word (λ o. IfSome o (λ n. n < 16) × (optional_slot_word o ≡ word)) word (codes "-") None slot _ (λ is. (tt, sym is)) (λ e.
    let p = mapped Some (slot_of word) slot e in
    rw (← p.2) (decimal-slot_of word p.0 p.1))

-- a width's word
pub width_of-word : (width : Width) → width_of (width_word width) ≡ Some width
unfolding width_of
width_of-word Bits8 = refl
width_of-word Bits16 = refl
width_of-word Bits32 = refl
width_of-word Bits64 = refl

-- a bit's word
pub bit_of-byte : (bit : Bool) → bit_of (bit_byte bit ∷ []) ≡ Some bit
unfolding bit_of
bit_of-byte true = refl
bit_of-byte false = refl

pub word-width_of : (word : List ℕ) (width : Width) → width_of word ≡ Some width → width_word width ≡ word
unfolding width_of
word-width_of word width =
    let at = at_word (λ one. width_word one ≡ word) word in
    at (codes "8") Bits8 width _ sym (at (codes "16") Bits16 width _ sym (at (codes "32") Bits32 width _ sym (at (codes "64") Bits64 width _ sym (λ e. absurd (none-some width e)))))

pub byte-bit_of : (word : List ℕ) (bit : Bool) → bit_of word ≡ Some bit → bit_byte bit ∷ [] ≡ word
unfolding bit_of
byte-bit_of word bit =
    let at = at_word (λ one. bit_byte one ∷ [] ≡ word) word in
    at (codes "0") false bit _ sym (at (codes "1") true bit _ sym (λ e. absurd (none-some bit e)))

-- the items that are spelled by a byte each, and back
items_of_digits-text : (items : List Bool) → items_of_digits (map bit_byte items) ≡ items
items_of_digits-text [] = refl
items_of_digits-text (true ∷ items) = ap (λ t. true ∷ t) (items_of_digits-text items)
items_of_digits-text (false ∷ items) = ap (λ t. false ∷ t) (items_of_digits-text items)

all_bit_bytes : (items : List Bool) → list_all is_bit_byte (map bit_byte items) ≡ true
all_bit_bytes [] = refl
all_bit_bytes (true ∷ items) = all_bit_bytes items
all_bit_bytes (false ∷ items) = all_bit_bytes items

said_byte : (byte : ℕ) → is_bit_byte byte ≡ true → bit_byte (eqb byte 49) ≡ byte
said_byte byte e = grind (arith, e)

text-items_of_digits : (word : List ℕ) → list_all is_bit_byte word ≡ true → map bit_byte (items_of_digits word) ≡ word
text-items_of_digits [] e = refl
text-items_of_digits (byte ∷ bytes) e =
    let p = both (is_bit_byte byte) (list_all is_bit_byte bytes) e in
    rw (said_byte byte p.0, text-items_of_digits bytes p.1) refl

-- a list that begins with a byte is not empty
pub some_bytes : (byte : ℕ) (bytes : List ℕ) → eqb (length (byte ∷ bytes)) 0 ≡ false
some_bytes byte bytes = grind arith

-- a text of bits
pub bits_of-text : (items : List Bool) → bits_of (bits_text items) ≡ Some items
unfolding bits_of
bits_of-text [] = refl
bits_of-text (true ∷ items) = rw (some_bytes 49 (map bit_byte items), all_bit_bytes items) (ap (λ t. Some (true ∷ t)) (items_of_digits-text items))
bits_of-text (false ∷ items) = rw (some_bytes 48 (map bit_byte items), all_bit_bytes items) (ap (λ t. Some (false ∷ t)) (items_of_digits-text items))

some_said : (word : List ℕ) → (eqb (length word) 0) ≡ false → bits_text (items_of_digits word) ≡ map bit_byte (items_of_digits word)
some_said [] e = cc
some_said (byte ∷ bytes) e = refl

pub text-bits_of : (word : List ℕ) (items : List Bool) → bits_of word ≡ Some items → bits_text items ≡ word
unfolding bits_of
text-bits_of word items = at_word (λ bits. bits_text bits ≡ word) word (codes "-") [] items _ sym (λ e. elim (choice (eqb (length word) 0) None (cond (list_all is_bit_byte word) (Some (items_of_digits word)) None) (Some items) e) [
  | inl p ↦ absurd (none-some items p.1)
  | inr r ↦
      let p = cond_some (list_all is_bit_byte word) (items_of_digits word) items r.1 in
      rw (← p.1) (some_said word r.0 ∙ text-items_of_digits word p.0)
])
