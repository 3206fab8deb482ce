-- Items that are appended together: their bytes, and growth by them as growth by slots.
use Rattle.std.proofs.Common.{Bor, ◌≡◌, ◌∙◌, ℕ, zero, suc, ◌+◌, ◌<◌, ◌≤◌, List, [], ◌∷◌, All, length, map, replicate, sum, take, get_or, refl, ap, sym, arith, IfSome, OnOk, Option, Some, None, Result, Ok, Err, is_some}
use Rattle.std.specs.Option.{option_copied, option_map_or, unwrap_or}
use Rattle.std.proofs.lemmas.List.{length-append, length-map, length-take}
use Rattle.std.proofs.lemmas.List.Elements.{All-map, All-replicate}
use Rattle.std.proofs.lemmas.List.Sums.{sum_by-cons}
use Rattle.std.proofs.lemmas.Simd.{map-map}
use Rattle.arrow2_types.specs.declared.error.Error.{Error}
use Rattle.arrow2_walks.specs.Zipped.{zipped}
use Rattle.arrow2_text.specs.Values.{AreValues}
use Rattle.arrow2_text.specs.Growth.{AppendsBinary, AppendsSlots, GrowingSlots, GrownBySlots, HasCapacityFor, bytes_of_items, growing_binary, values_of_items}
use Rattle.arrow2_text.proofs.GrowingValues.{one-value}
use Rattle.arrow2_text.proofs.GrowthItems.{appends-items}

-- the bytes of a value, by its item
pub bytes-by_option : (r : Option (Bor (List ℕ))) (u e : Bor (List ℕ)) (o : Option (List ℕ)) → option_copied r ≡ o → u ≡ unwrap_or r e → e.now ≡ [] → length u.now ≡ option_map_or length o 0
bytes-by_option None u e o is made none = ap (λ b. length b.now) made ∙ (ap length none ∙ ap (λ p. option_map_or length p 0) is)
bytes-by_option (Some v) u e o is made none = ap (λ b. length b.now) made ∙ ap (λ p. option_map_or length p 0) is

-- the bytes themselves
pub value-by_option : (r : Option (Bor (List ℕ))) (u e : Bor (List ℕ)) → u ≡ unwrap_or r e → e.now ≡ [] → u.now ≡ unwrap_or (option_copied r) []
value-by_option None u e made none = ap (λ b. b.now) made ∙ none
value-by_option (Some v) u e made none = ap (λ b. b.now) made

module _ {X : Type 0} (size : X → ℕ) where
  -- no more than all are those so far and one more
  taken-sum : (xs : List X) (i : ℕ) (d : X) → i < length xs → sum (map size (take i xs)) + size (get_or xs i d) ≤ sum (map size xs)
  taken-sum [] i d h = absurd (omega (arith, h))
  taken-sum (x ∷ xs) zero d h = let s = sum_by-cons (λ n. n) (size x) (map size xs) in omega (arith, s)
  taken-sum (x ∷ xs) (suc i) d h =
      let s = sum_by-cons (λ n. n) (size x) (map size xs) in
      let t = sum_by-cons (λ n. n) (size x) (map size (take i xs)) in
      let rest = taken-sum xs i d (omega (arith, h)) in
      omega (arith, s, t, rest)

module _ {X : Type 0} (item : X → Option (List ℕ)) (xs : List X) (i : ℕ) (d : X) (below : i < length xs) where
  -- all have no fewer bytes than those so far and one more
  pub bytes-below : bytes_of_items (map item (take i xs)) + option_map_or length (item (get_or xs i d)) 0 ≤ bytes_of_items (map item xs)
  bytes-below =
      let some = ap sum (map-map (λ o. option_map_or length o 0) item (take i xs)) in
      let all = ap sum (map-map (λ o. option_map_or length o 0) item xs) in
      let h = taken-sum (λ x. option_map_or length (item x) 0) xs i d below in
      omega (arith, some, all, h)

  -- there is capacity for one more
  pub capacity-more : (max : ℕ) (old mid : GrowingSlots) (o : Option (List ℕ)) → o ≡ item (get_or xs i d) → HasCapacityFor max old (length xs) (bytes_of_items (map item xs)) → GrownBySlots old mid (values_of_items (map item (take i xs))) (map is_some (map item (take i xs))) (bytes_of_items (map item (take i xs)))
      → HasCapacityFor max mid 1 (option_map_or length o 0)
  capacity-more max old mid o is spare so =
      let valid = map is_some (map item (take i xs)) in
      let size = ap (λ p. option_map_or length p 0) is in
      let l = ap length so.valid in
      let m = length-append old.valid valid in
      let n = length-map (map item (take i xs)) is_some in
      let k = length-map (take i xs) item in
      let t = length-take i xs in
      record {
        slots = omega (arith, l, m, n, k, t, below, spare.slots, so.capacity);
        bytes = omega (arith, size, bytes-below, spare.bytes, so.bytes, so.byte_capacity);
        counted = omega (arith, l, m, n, k, t, below, spare.counted);
        fits = omega (arith, size, bytes-below, spare.fits, so.bytes);
      }

-- items are their slots and which of these are not null
items-zipped : (items : List (Option (List ℕ))) → zipped (values_of_items items) (map is_some items) ≡ items
items-zipped [] = refl
items-zipped (None ∷ items) = ap (λ l. None ∷ l) (items-zipped items)
items-zipped (Some x ∷ items) = ap (λ l. Some x ∷ l) (items-zipped items)

-- growth by the slots of items is growth by items
pub appends-given : {T : Type 0} (max : ℕ) (old new : GrowingSlots) (items : List (Option (List ℕ))) (bytes : ℕ) (r : Result T Error) → AppendsSlots max r old new (values_of_items items) (map is_some items) bytes → AppendsBinary max r (growing_binary old) (growing_binary new) items bytes
appends-given max old new items bytes r a =
    let l = length-map items is_some in
    let m = length-map items (λ item. unwrap_or item []) in
    rw (← items-zipped items) (appends-items max old new (values_of_items items) (map is_some items) bytes (l ∙ sym m) r a)

-- the bytes of values none of which is null
pub bytes-of_values : (values : List (Bor (List ℕ))) → bytes_of_items (map (λ value. Some value.now) values) ≡ sum (map (λ value. length value.now) values)
bytes-of_values values = ap sum (map-map (λ o. option_map_or length o 0) (λ value. Some value.now) values)

-- values of which something holds, also of no bytes
module _ (IsValue : List ℕ → Type 0) (no_bytes : IsValue []) where
  value-or-none : (o : Option (List ℕ)) → IfSome o IsValue → IsValue (unwrap_or o [])
  value-or-none None h = no_bytes
  value-or-none (Some x) h = h

  pub one-known : (o : Option (List ℕ)) (y : List ℕ) → y ≡ unwrap_or o [] → IfSome o IsValue → AreValues IsValue (y ∷ [])
  one-known o y e h = one-value IsValue y (rw e (value-or-none o h))

  pub known-values : {T X : Type 0} (r : Result T Error) (item : X → Option (List ℕ)) (xs : List X) → OnOk r (All (λ x. IfSome (item x) IsValue) xs) → OnOk r (AreValues IsValue (values_of_items (map item xs)))
  known-values (Err e) item xs h = tt
  known-values (Ok t) item xs h = record { each = rw (map-map (λ o. unwrap_or o []) item xs) (All-map IsValue (λ x. unwrap_or (item x) []) xs (λ k d below. value-or-none _ (h k d below))) }

  -- copies of a value, or of a null
  pub copied-values : (n : ℕ) (item : Option (List ℕ)) → IfSome item IsValue → AreValues IsValue (replicate n (unwrap_or item []))
  copied-values n item h = record { each = All-replicate IsValue n (unwrap_or item []) (value-or-none item h) }

-- copies of an item
module _ (n : ℕ) (item : Option (List ℕ)) where
  copies : {X : Type 0} (f : Option (List ℕ) → X) (m : ℕ) → map f (replicate m item) ≡ replicate m (f item)
  copies f zero = refl
  copies f (suc m) = ap (λ l. f item ∷ l) (copies f m)

  pub appends-copies : {T : Type 0} (max : ℕ) (old new : GrowingSlots) (bytes : ℕ) (r : Result T Error) → AppendsSlots max r old new (replicate n (unwrap_or item [])) (replicate n (is_some item)) bytes → AppendsBinary max r (growing_binary old) (growing_binary new) (replicate n item) bytes
  appends-copies max old new bytes r a = appends-given max old new (replicate n item) bytes r (rw (copies (λ o. unwrap_or o []) n, copies is_some n) a)
