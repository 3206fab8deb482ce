-- Items that are collected one by one: they, and how many bytes they have.
use Rattle.std.proofs.Common.{◌≡◌, ◌∙◌, ℕ, ◌+◌, ◌<◌, ◌≤◌, ◌^◌, ◌⊎◌, inl, inr, List, [], ◌∷◌, ◌++◌, length, map, sum, cond, count_by, refl, ap, sym, arith, Option, Some, Result, Ok, Err, IfErr, IfOk, IsErrAnd, IsNone, ◌↔◌}
use Rattle.std.specs.Option.{is_none, option_map_or}
use Rattle.std.proofs.lemmas.List.Sums.{sum_by-cons}
use Rattle.std.proofs.lemmas.List.{length-append, length-map, map-append}
use Rattle.arrow2_offset.proofs.Appending.{sum-push}
use Rattle.arrow2_types.specs.declared.error.Error.{Error}
use Rattle.arrow2_types.specs.declared.error.Error.TheVariants.{OutOfMemory, Overflow}
use Rattle.arrow2_datatypes.specs.declared.DataType.{DataType}
use Rattle.arrow2_text.specs.Binary.{BinaryParts, binary_items}
use Rattle.arrow2_text.specs.Growth.{bytes_of_items}
use Rattle.arrow2_model.specs.Lists.{buffer_items}

-- one item more has its bytes more
pub bytes-more : (items : List (Option (List ℕ))) (item : Option (List ℕ)) → bytes_of_items (items ++ item ∷ []) ≡ bytes_of_items items + option_map_or length item 0
bytes-more items item = ap sum (map-append (λ o. option_map_or length o 0) items (item ∷ [])) ∙ sum-push (map (λ o. option_map_or length o 0) items) (option_map_or length item 0)

module _ {X : Type 0} (item_of : X → Option (List ℕ)) (came : List X) (item : X) where
  one-more : map item_of (came ++ item ∷ []) ≡ map item_of came ++ item_of item ∷ []
  one-more = map-append item_of came (item ∷ [])

  pub items-collected : {items : List (Option (List ℕ))} → items ≡ map item_of came → items ++ item_of item ∷ [] ≡ map item_of (came ++ item ∷ [])
  items-collected e = ap (λ l. l ++ item_of item ∷ []) e ∙ sym one-more

  all-bytes : bytes_of_items (map item_of (came ++ item ∷ [])) ≡ bytes_of_items (map item_of came) + option_map_or length (item_of item) 0
  all-bytes = ap bytes_of_items one-more ∙ bytes-more (map item_of came) (item_of item)

  pub bytes-collected : {bytes : ℕ} → bytes ≡ bytes_of_items (map item_of came) → bytes + option_map_or length (item_of item) 0 ≡ bytes_of_items (map item_of (came ++ item ∷ []))
  bytes-collected e = ap (λ n. n + option_map_or length (item_of item) 0) e ∙ sym all-bytes

-- where one more item is too many, or its bytes are
module _ {X : Type 0} (item_of : X → Option (List ℕ)) (greatest : ℕ) (came : List X) (item : X) {items : List (Option (List ℕ))} {bytes : ℕ} where
  pub past-collected : items ≡ map item_of came → bytes ≡ bytes_of_items (map item_of came)
      → (greatest < bytes + option_map_or length (item_of item) 0) ⊎ (2 ^ 64 ≤ length items + length (item_of item ∷ []))
      → (greatest < bytes_of_items (map item_of (came ++ item ∷ []))) ⊎ (2 ^ 64 ≤ length (came ++ item ∷ []))
  past-collected e is (inl past) = let all = bytes-collected item_of came item is in inl (omega (arith, all, past))
  past-collected e is (inr many) =
      let l = length-append came (item ∷ []) in
      let m = length-map came item_of in
      let n = ap length e in
      inr (omega (arith, l, m, n, many))

-- the error that is handed on is the one that came
pub handed-on : {U : Type 0} (r : Result U Error) (x e : Error) → IsErrAnd r (λ y. y ≡ e) → r ≡ Err x → e ≡ x
handed-on (Ok u) x e h is = cc
handed-on (Err y) x e h is = cc

-- where items are too many or their bytes are, after none, their bytes are
pub past-all : {X : Type 0} (item : X → Option (List ℕ)) (xs : List X) (greatest held bytes : ℕ) {items : List (Option (List ℕ))} → items ≡ [] → held ≡ 0 → (2 ^ 64 ≤ length xs + 1 → ⊥)
    → (greatest < held + bytes) ⊎ (2 ^ 64 ≤ length items + length (map item xs)) → greatest < bytes
past-all item xs greatest held bytes none empty few (inl past) = omega (arith, past, empty)
past-all item xs greatest held bytes none empty few (inr many) = let l = length-map xs item in let n = ap length none in absurd (few (omega (arith, l, n, many)))

-- facts about an array that was made
pub made-items : (r : Result BinaryParts Error) {items all : List (Option (List ℕ))} → IfOk r (λ a. binary_items a ≡ items) → items ≡ all → IfOk r (λ a. binary_items a ≡ all)
made-items (Ok a) h e = h ∙ e
made-items (Err x) h e = tt

pub made-bytes : (r : Result BinaryParts Error) {n all : ℕ} → IfOk r (λ a. length (buffer_items a.values) ≡ n) → n ≡ all → IfOk r (λ a. length (buffer_items a.values) ≡ all)
made-bytes (Ok a) h e = h ∙ e
made-bytes (Err x) h e = tt

pub made-type : (r : Result BinaryParts Error) {held all : DataType} → IfOk r (λ a. a.data_type ≡ held) → held ≡ all → IfOk r (λ a. a.data_type ≡ all)
made-type (Ok a) h e = h ∙ e
made-type (Err x) h e = tt

-- out of memory is no overflow
pub no-overflow : {U : Type 0} (r : Result U Error) → IfErr r (λ e. e ≡ OutOfMemory) → r ≡ Err Overflow → ⊥
no-overflow (Ok u) only is = cc
no-overflow (Err x) only is = cc

-- a returned value is no error
pub not-failed : {U : Type 0} (u : U) (e : Error) → Ok u ≡ Err e → ⊥
not-failed u e is = cc

pub only-memory : {U : Type 0} (r : Result U Error) → IfErr r (λ e. e ≡ OutOfMemory) → IfErr r (λ e. (e ≡ Overflow) ⊎ (e ≡ OutOfMemory))
only-memory (Ok u) only = tt
only-memory (Err x) only = inr only

-- an array none of whose items is null has no bitmap
pub no-bitmap : (r : Result BinaryParts Error) (items : List (Option (List ℕ))) → count_by is_none items ≡ 0 → IfOk r (λ a. IsNone a.validity.bitmap ↔ (count_by is_none items ≡ 0)) → IfOk r (λ a. IsNone a.validity.bitmap)
no-bitmap (Ok a) items e h = h.1 e
no-bitmap (Err x) items e h = tt

-- values that are all there
pub none-null : {X Y : Type 0} (f : X → Y) (xs : List X) → count_by is_none (map (λ x. Some (f x)) xs) ≡ 0
none-null f [] = refl
none-null f (x ∷ xs) = let s = sum_by-cons (λ o. cond (is_none o) 1 0) (Some (f x)) (map (λ y. Some (f y)) xs) in let rest = none-null f xs in omega (arith, s, rest)
