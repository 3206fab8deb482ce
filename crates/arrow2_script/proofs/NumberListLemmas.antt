-- Words that spell lists of numbers, and the one word that spells each.
use Rattle.std.proofs.Common.{map, codes, ◌≡◌, ◌≢◌, ◌∙◌, sym, ap, refl, ◌<◌, ◌^◌, ℕ, List, [], ◌∷◌, length, get_or, true, inl, inr, arith, eqb, Some, None, decimal}
use Rattle.std.specs.List.{All, list_all, join_with_byte}
use Rattle.std.specs.Str.Parse.{digits_value, AllDigits}
use Rattle.std.proofs.lemmas.Fmt.{decimal_is_IsNumeral}
use Rattle.std.proofs.lemmas.Str.Parse.{digit_from_value}
use Rattle.std.proofs.lemmas.Option.{cond_some, same_Some, none-some}
use Rattle.std.proofs.lemmas.List.Elements.{All-cons, All-nil}
use Rattle.std.proofs.lemmas.List.Splits.{join_with_byte-slice_split, length-slice_split}
use Rattle.arrow2_script.specs.Lines.{parts_between}
use Rattle.arrow2_script.specs.Words.{number_of, is_number, numbers_of_words, numbers_text, number_list}
use Rattle.arrow2_script.proofs.LineLemmas.{parts_all, parts-joined, parts-last}
use Rattle.arrow2_script.proofs.WordLemmas.{number_of-decimal, decimal-number_of, some_or_none, at_word, both, other_than, no_dash}

-- a word that is a number is parsed as the number of its digits
pub number-parsed : (word : List ℕ) → is_number word ≡ true → (number_of word ≡ Some (digits_value 10 word)) × (digits_value 10 word < 2 ^ 64) × (decimal (digits_value 10 word) ≡ word)
number-parsed word e = elim (some_or_none (number_of word)) [
  | inl p ↦
      let d = decimal-number_of word p.0 p.1 in
      let value : digits_value 10 word ≡ p.0 = ap (digits_value 10) (sym d.1) ∙ (decimal_is_IsNumeral p.0 d.0).1 in
      rw value (p.1, d.0, d.1)
  | inr none ↦ let never = rw none at e in cc
]

-- the first of such words spells the first of their numbers
pub first_number : (words others : List (List ℕ)) (word : List ℕ) (n : ℕ) → words ≡ word ∷ others → list_all is_number words ≡ true → number_of word ≡ Some n → numbers_of_words words ≡ n ∷ numbers_of_words others
first_number words others word n e all parses =
    let value = (number-parsed word (both (is_number word) (list_all is_number others) (ap (list_all is_number) (sym e) ∙ all)).0).0 in
    let same : digits_value 10 word ≡ n = same_Some (digits_value 10 word) n (sym value ∙ parses) in
    rw (e, same) refl

-- there is one
pub some_number : (words others : List (List ℕ)) (word : List ℕ) → words ≡ word ∷ others → list_all is_number words ≡ true → number_of word ≡ None → ⊥
some_number words others word e all none =
    let value = (number-parsed word (both (is_number word) (list_all is_number others) (ap (list_all is_number) (sym e) ∙ all)).0).0 in
    none-some (digits_value 10 word) (sym none ∙ value)

-- and the others are numbers too
pub other_numbers : (words others : List (List ℕ)) (word : List ℕ) → words ≡ word ∷ others → list_all is_number words ≡ true → list_all is_number others ≡ true
other_numbers words others word e all = (both (is_number word) (list_all is_number others) (ap (list_all is_number) (sym e) ∙ all)).1

pub ruleset numbers = (first_number, some_number, other_numbers)

-- ---- from numbers to their word

parsed_again : (ns : List ℕ) → All (λ m. m < 2 ^ 64) ns → (list_all is_number (map decimal ns) ≡ true) × (numbers_of_words (map decimal ns) ≡ ns)
parsed_again [] all = (refl, refl)
parsed_again (n ∷ ns) all =
    let p = parts_all (λ m. m < 2 ^ 64) n ns all in
    let others = parsed_again ns p.1 in
    (rw (number_of-decimal n p.0, others.0) refl, rw ((decimal_is_IsNumeral n p.0).1, others.1) refl)

digits_free : (digits : List ℕ) → AllDigits 10 digits → All (λ b. b ≢ 44) digits
digits_free [] all = All-nil (λ b. b ≢ 44)
digits_free (d ∷ digits) all =
    let range = digit_from_value d all.0 in
    All-cons (λ b. b ≢ 44) d digits (omega (arith, range.0)) (digits_free digits all.1)

words_free : (ns : List ℕ) → All (λ m. m < 2 ^ 64) ns → All (λ part. All (λ b. b ≢ 44) part) (map decimal ns)
words_free [] all = All-nil (λ part. All (λ b. b ≢ 44) part)
words_free (n ∷ ns) all =
    let p = parts_all (λ m. m < 2 ^ 64) n ns all in
    All-cons (λ part. All (λ b. b ≢ 44) part) (decimal n) (map decimal ns) (digits_free (decimal n) (decimal_is_IsNumeral n p.0).0.1) (words_free ns p.1)

-- the parts of such a word are the words of its numbers
numbers_parts : (n : ℕ) (ns : List ℕ) → All (λ m. m < 2 ^ 64) (n ∷ ns) → parts_between 44 (join_with_byte 44 (map decimal (n ∷ ns))) ≡ map decimal (n ∷ ns)
numbers_parts n ns all = parts-joined 44 (map decimal (n ∷ ns)) (omega arith) (words_free (n ∷ ns) all)

not_dash : (n : ℕ) (ns : List ℕ) → All (λ m. m < 2 ^ 64) (n ∷ ns) → join_with_byte 44 (map decimal (n ∷ ns)) ≡ codes "-" → ⊥
not_dash n ns all e =
    let dash : parts_between 44 (codes "-") ≡ codes "-" ∷ [] = parts-last 44 (codes "-") (All-cons (λ b. b ≢ 44) 45 [] (omega arith) (All-nil (λ b. b ≢ 44))) in
    let same : map decimal (n ∷ ns) ≡ codes "-" ∷ [] = sym (numbers_parts n ns all) ∙ ap (parts_between 44) e ∙ dash in
    no_dash n (parts_all (λ m. m < 2 ^ 64) n ns all).0 (ap (λ words. get_or words 0 []) same)

pub number_list-text : (ns : List ℕ) → All (λ m. m < 2 ^ 64) ns → number_list (numbers_text ns) ≡ Some ns
unfolding number_list
number_list-text [] all = refl
number_list-text (n ∷ ns) all =
    let parsed = parsed_again (n ∷ ns) all in
    rw (other_than (join_with_byte 44 (map decimal (n ∷ ns))) (codes "-") (not_dash n ns all), numbers_parts n ns all, parsed.0, parsed.1) refl

-- ---- and back

words_again : (words : List (List ℕ)) → list_all is_number words ≡ true → All (λ m. m < 2 ^ 64) (numbers_of_words words) × (map decimal (numbers_of_words words) ≡ words)
words_again [] e = (All-nil (λ m. m < 2 ^ 64), refl)
words_again (word ∷ words) e =
    let p = both (is_number word) (list_all is_number words) e in
    let first = number-parsed word p.0 in
    let others = words_again words p.1 in
    (All-cons (λ m. m < 2 ^ 64) (digits_value 10 word) (numbers_of_words words) first.1 others.0, rw (first.2, others.1) refl)

joined_text : (words : List (List ℕ)) → 0 < length words → map decimal (numbers_of_words words) ≡ words → numbers_text (numbers_of_words words) ≡ join_with_byte 44 words
joined_text [] some e = absurd (omega arith)
joined_text (word ∷ words) some e = ap (join_with_byte 44) e

parts_again : (word : List ℕ) → (0 < length (parts_between 44 word)) × (join_with_byte 44 (parts_between 44 word) ≡ word)
unfolding parts_between
parts_again word = (omega (arith, length-slice_split (λ b. eqb b 44) word), join_with_byte-slice_split 44 word)

pub text-number_list : (word : List ℕ) (ns : List ℕ) → number_list word ≡ Some ns → All (λ m. m < 2 ^ 64) ns × (numbers_text ns ≡ word)
unfolding number_list
text-number_list word ns = at_word (λ ms. All (λ m. m < 2 ^ 64) ms × (numbers_text ms ≡ word)) word (codes "-") [] ns _ (λ is. (All-nil (λ m. m < 2 ^ 64), sym is)) (λ e.
    let p = cond_some (list_all is_number (parts_between 44 word)) (numbers_of_words (parts_between 44 word)) ns e in
    let again = words_again (parts_between 44 word) p.0 in let parts = parts_again word in
    rw (← p.1) (again.0, joined_text (parts_between 44 word) parts.0 again.1 ∙ parts.1))
