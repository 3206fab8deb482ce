-- Decimal digits read one by one.
use Rattle.std.proofs.Common.{◌≡◌, ℕ, ◌+◌, ◌*◌, ◌^◌, ◌<◌, ◌≤◌, List, [], ◌∷◌, ◌++◌, length, take, get_or, arith, Option, Some, None, IfNone}
use Rattle.std.specs.Char.{digit_value}
use Rattle.std.specs.Str.Parse.{AllDigits, digits_value}
use Rattle.std.proofs.lemmas.Int.Digits.{digits_value_push}
use Rattle.std.proofs.lemmas.List.{take_more}
use Rattle.std.proofs.lemmas.Str.{digit_value_digit}
use Rattle.std.proofs.lemmas.Str.Parse.{digit_from_value, digits_value-take-le}

-- a fact that holds at all holds where an option is none
pub of_none : {A P : Type 0} (r : Option A) → P → IfNone r P
of_none None p = p
of_none (Some x) p = tt

push_digit : (ds : List ℕ) (c : ℕ) → AllDigits 10 ds → digit_value c < 10 → AllDigits 10 (ds ++ c ∷ [])
push_digit [] c all h = (h, tt)
push_digit (d ∷ ds) c all h = (all.0, push_digit ds c all.1 h)

-- one digit more
pub digit_more : (ds : List ℕ) (k : ℕ) → k < length ds → AllDigits 10 (take k ds) → digit_value (get_or ds k 0) < 10
    → AllDigits 10 (take (k + 1) ds) × (digits_value 10 (take (k + 1) ds) + 48 ≡ digits_value 10 (take k ds) * 10 + get_or ds k 0)
digit_more ds k within all h =
    let c = get_or ds k 0 in
    let more = take_more ds k 0 within in
    let value = digits_value_push 10 (take k ds) c in
    let digit = digit_value_digit c (digit_from_value c h) in
    rw more (push_digit (take k ds) c all h, omega (arith, value, digit))

-- a number whose first digits are too large is too large
pub too_large : (ds : List ℕ) (k : ℕ) → 2 ^ 64 ≤ digits_value 10 (take k ds) → digits_value 10 ds < 2 ^ 64 → ⊥
too_large ds k h fits = let least = digits_value-take-le 10 ds k (omega arith) in omega (arith, least)
