-- Words that spell bytes in hexadecimal, and the one word that spells each.
use Rattle.std.proofs.Common.{codes, ◌≡◌, ◌∙◌, sym, ap, refl, ◌+◌, ◌*◌, ◌/◌, ◌%◌, ◌<◌, ℕ, List, [], ◌∷◌, length, true, false, cond, ◌&&◌, inl, inr, arith, eqb, Some, None}
use Rattle.std.specs.List.{All, list_all, flat_map}
use Rattle.std.proofs.lemmas.List.Elements.{All-cons, All-nil}
use Rattle.std.proofs.lemmas.Option.{cond_some, none-some}
use Rattle.arrow2_script.specs.Words.{is_hex_digit, hex_value, hex_digit, bytes_of_digits, hex_digits, hex_text, bytes_of}
use Rattle.arrow2_script.proofs.LineLemmas.{parts_all}
use Rattle.arrow2_script.proofs.WordLemmas.{at_word, choice, both, some_bytes, other_than}

-- two digits spell the first byte, and those after them the others
pub first_byte : (digits following rest : List ℕ) (high low h l : ℕ) → digits ≡ high ∷ following → following ≡ low ∷ rest → h ≡ hex_value high → l ≡ hex_value low → bytes_of_digits digits ≡ (16 * h + l) ∷ bytes_of_digits rest
unfolding bytes_of_digits
first_byte digits following rest high low h l e f is_high is_low = rw (e, f, is_high, is_low) refl

-- fewer digits spell none
pub no_byte : (digits : List ℕ) → length digits ≡ 0 → bytes_of_digits digits ≡ []
unfolding bytes_of_digits
no_byte [] e = refl
no_byte (high ∷ digits) e = cc

pub half_byte : (digits following : List ℕ) (high : ℕ) → digits ≡ high ∷ following → length following ≡ 0 → bytes_of_digits digits ≡ []
unfolding bytes_of_digits
half_byte digits [] high e f = rw e refl
half_byte digits (low ∷ following) high e f = cc

-- half the number of digits
pub length-bytes_of_digits : (digits : List ℕ) → length (bytes_of_digits digits) ≡ length digits / 2
unfolding bytes_of_digits
length-bytes_of_digits [] = refl
length-bytes_of_digits (high ∷ []) = refl
length-bytes_of_digits (high ∷ low ∷ digits) = omega (arith, length-bytes_of_digits digits)

pub ruleset hex_bytes = (first_byte, no_byte, half_byte, length-bytes_of_digits)

-- ---- from bytes to their word

value_digit : (n : ℕ) → n < 16 → hex_value (hex_digit n) ≡ n
value_digit n h = grind (arith, h)

is_digit : (n : ℕ) → n < 16 → is_hex_digit (hex_digit n) ≡ true
is_digit n h = grind (arith, h)

halves : (b : ℕ) → b < 256 → (b / 16 < 16) × (b % 16 < 16) × (16 * (b / 16) + b % 16 ≡ b)
halves b h = (omega (arith, h), omega arith, omega arith)

are_even : (bs : List ℕ) → length (flat_map hex_digits bs) % 2 ≡ 0
are_even [] = refl
are_even (b ∷ bs) = omega (arith, are_even bs)

parsed_again : (bs : List ℕ) → All (λ m. m < 256) bs → (list_all is_hex_digit (flat_map hex_digits bs) ≡ true) × (bytes_of_digits (flat_map hex_digits bs) ≡ bs)
unfolding bytes_of_digits
parsed_again [] all = (refl, refl)
parsed_again (b ∷ bs) all =
    let p = parts_all (λ m. m < 256) b bs all in
    let h = halves b p.0 in
    let others = parsed_again bs p.1 in
    (rw (is_digit (b / 16) h.0, is_digit (b % 16) h.1, others.0) refl, rw (value_digit (b / 16) h.0, value_digit (b % 16) h.1, h.2, others.1) refl)

not_dash : (b : ℕ) (bs : List ℕ) → hex_text (b ∷ bs) ≡ codes "-" → ⊥
not_dash b bs e = let n = ap length e in omega (arith, n)

pub bytes_of-text : (bs : List ℕ) → All (λ m. m < 256) bs → bytes_of (hex_text bs) ≡ Some bs
unfolding bytes_of
bytes_of-text [] all = refl
bytes_of-text (b ∷ bs) all =
    let text = other_than (hex_text (b ∷ bs)) (codes "-") (not_dash b bs) in
    let some = some_bytes (hex_digit (b / 16)) (hex_digit (b % 16) ∷ flat_map hex_digits bs) in
    let parsed = parsed_again (b ∷ bs) all in
    rw (text, some, are_even (b ∷ bs), parsed.0, parsed.1) refl

-- ---- and back

digit_again : (byte : ℕ) → is_hex_digit byte ≡ true → (hex_value byte < 16) × (hex_digit (hex_value byte) ≡ byte)
digit_again byte e = (grind (arith, e), grind (arith, e))

joined : (h l : ℕ) → l < 16 → ((16 * h + l) / 16 ≡ h) × ((16 * h + l) % 16 ≡ l)
joined h l fits = (omega (arith, fits), omega (arith, fits))

digits_again : (word : List ℕ) → length word % 2 ≡ 0 → list_all is_hex_digit word ≡ true → All (λ m. m < 256) (bytes_of_digits word) × (flat_map hex_digits (bytes_of_digits word) ≡ word)
unfolding bytes_of_digits
digits_again [] even e = (All-nil (λ m. m < 256), refl)
digits_again (high ∷ []) even e = absurd (omega (arith, even))
digits_again (high ∷ low ∷ digits) even e =
    let p = both (is_hex_digit high) (list_all is_hex_digit (low ∷ digits)) e in
    let q = both (is_hex_digit low) (list_all is_hex_digit digits) p.1 in
    let h = digit_again high p.0 in
    let l = digit_again low q.0 in
    let j = joined (hex_value high) (hex_value low) l.0 in
    let others = digits_again digits (omega (arith, even)) q.1 in
    (All-cons (λ m. m < 256) (16 * hex_value high + hex_value low) (bytes_of_digits digits) (omega (arith, h.0, l.0)) others.0, rw (j.0, j.1, h.1, l.1, others.1) refl)

-- digits that are there spell bytes that are there
whole_text : (word : List ℕ) → eqb (length word) 0 ≡ false → length word % 2 ≡ 0 → hex_text (bytes_of_digits word) ≡ flat_map hex_digits (bytes_of_digits word)
unfolding bytes_of_digits
whole_text [] some even = cc
whole_text (high ∷ []) some even = absurd (omega (arith, even))
whole_text (high ∷ low ∷ digits) some even = refl

pub text-bytes_of : (word : List ℕ) (bs : List ℕ) → bytes_of word ≡ Some bs → All (λ m. m < 256) bs × (hex_text bs ≡ word)
unfolding bytes_of
text-bytes_of word bs = at_word (λ bytes. All (λ m. m < 256) bytes × (hex_text bytes ≡ word)) word (codes "-") [] bs _ (λ is. (All-nil (λ m. m < 256), sym is)) (λ e. elim (choice (eqb (length word) 0) None (cond (eqb (length word % 2) 0 && list_all is_hex_digit word) (Some (bytes_of_digits word)) None) (Some bs) e) [
  | inl p ↦ absurd (none-some bs p.1)
  | inr r ↦
      let p = cond_some (eqb (length word % 2) 0 && list_all is_hex_digit word) (bytes_of_digits word) bs r.1 in
      let d = both (eqb (length word % 2) 0) (list_all is_hex_digit word) p.0 in
      let even : length word % 2 ≡ 0 = grind (arith, d.0) in
      let again = digits_again word even d.1 in
      rw (← p.1) (again.0, whole_text word r.0 even ∙ again.1)
])
