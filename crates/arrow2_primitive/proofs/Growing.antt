-- Arrays that grow: values and validity, by as many items each.
use Rattle.std.proofs.Common.{◌≡◌, ℕ, zero, suc, ◌+◌, ◌-◌, ◌<◌, List, [], ◌∷◌, ◌++◌, Bool, true, false, length, take, get_or, replicate, map, refl, ap, sym, ◌∙◌, arith, Option, Some, None, ◌↔◌, is_some, unwrap_or, IsNone, IfSome}
use Rattle.std.specs.Bool.{then_some}
use Rattle.std.proofs.Math.Nat.{min-le_left, min-le_right, le-min}
use Rattle.std.proofs.lemmas.List.{length-map, length-replicate, length-append, length-take, map-append, take_all, take_more}
use Rattle.arrow2_model.specs.Lists.{BufferStorage, buffer_items, part, falses, BitmapStorage, items_of}
use Rattle.arrow2_model.proofs.Counts.{falses-none}
use Rattle.arrow2_model.proofs.Parts.{length-part}
use Rattle.arrow2_walks.specs.Zipped.{slot, zipped}
use Rattle.arrow2_walks.proofs.RemainingItems.{part-between}
use Rattle.arrow2_walks.proofs.Zipped.{append-zipped, part-zipped, push-zipped, slot-option}
use Rattle.arrow2_validity.specs.OptionalValidity.{items_or_true}
use Rattle.arrow2_validity.proofs.Slots.{arrays, zipped-true}

module _ {X : Type 0} where
  -- values that are not null after others
  pub append-true : (xs ys : List X) (vs : List Bool) → length vs ≡ length xs → zipped (xs ++ ys) (vs ++ replicate (length ys) true) ≡ zipped xs vs ++ map (λ x. Some x) ys
  append-true xs ys vs e = append-zipped xs ys vs (replicate (length ys) true) e ∙ ap (λ l. zipped xs vs ++ l) (zipped-true ys)

  zipped-constant : (n : ℕ) (x : X) (v : Bool) → zipped (replicate n x) (replicate n v) ≡ replicate n (slot x v)
  zipped-constant zero x v = refl
  zipped-constant (suc n) x v = ap (λ l. slot x v ∷ l) (zipped-constant n x v)

  -- the same item after others, n times
  pub append-constant : (xs : List X) (vs : List Bool) (m n : ℕ) (item : Option X) (d : X) → length vs ≡ length xs → m ≡ length xs
      → zipped (take (m + n) xs ++ replicate (m + n - m) (unwrap_or item d)) (vs ++ replicate n (is_some item)) ≡ zipped xs vs ++ replicate n item
  append-constant xs vs m n item d e is =
      let whole : take (m + n) xs ≡ xs = take_all (m + n) xs (omega (arith, is)) in
      let size : m + n - m ≡ n = omega arith in
      rw (whole, size) (append-zipped xs (replicate n (unwrap_or item d)) vs (replicate n (is_some item)) e
      ∙ ap (λ l. zipped xs vs ++ l) (zipped-constant n (unwrap_or item d) (is_some item) ∙ ap (replicate n) (slot-option item d)))

  -- a part of an array after others
  pub append-part : (xs ys : List X) (vs ws : List Bool) (items : List (Option X)) (a n : ℕ) → length vs ≡ length xs → length ws ≡ length ys → zipped ys ws ≡ items
      → zipped (xs ++ part ys a n) (vs ++ part ws a n) ≡ zipped xs vs ++ part items a n
  append-part xs ys vs ws items a n e f is =
      append-zipped xs (part ys a n) vs (part ws a n) e ∙ ap (λ l. zipped xs vs ++ l) (sym (part-zipped ys ws a n f) ∙ ap (λ l. part l a n) is)

  -- the last item, by its value and whether it is valid
  pub pop-zipped : (xs ys : List X) (vs ws : List Bool) (x : X) (v : Bool) → xs ≡ ys ++ x ∷ [] → vs ≡ ws ++ v ∷ [] → length vs ≡ length xs → zipped xs vs ≡ zipped ys ws ++ then_some v x ∷ []
  pop-zipped xs ys vs ws x v is-xs is-vs e =
      let l = length-append ys (x ∷ []) in let m = length-append ws (v ∷ []) in
      let same : length ws ≡ length ys = omega (arith, l, m, ap length is-xs, ap length is-vs, e) in
      rw (is-xs, is-vs) (push-zipped ys ws x v same ∙ ap (λ i. zipped ys ws ++ i ∷ []) (as_option v x))
    where
      as_option : (v : Bool) (x : X) → slot x v ≡ then_some v x
      as_option true x = refl
      as_option false x = refl

  -- the items of an array without a bitmap
  pub all-there : (b : BufferStorage X) (xs : List X) → buffer_items b ≡ xs → zipped (buffer_items b) (items_or_true (length (buffer_items b)) None) ≡ map (λ x. Some x) xs
  unfolding items_or_true
  all-there b xs is = rw is (zipped-true xs)

  -- the items of an array over the values and the validity that grew, which has no bitmap where no item is null
  pub frozen : (xs : List X) (vs : List Bool) (b : BufferStorage X) (bitmap : Option BitmapStorage) → length vs ≡ length xs → buffer_items b ≡ xs
      → (IsNone bitmap ↔ (falses vs ≡ 0)) → IfSome bitmap (λ w. items_of w ≡ vs) → zipped (buffer_items b) (items_or_true (length (buffer_items b)) bitmap) ≡ zipped xs vs
  unfolding items_or_true
  frozen xs vs b None e is none items = rw is (ap (zipped xs) (ap (λ n. replicate n true) (sym e) ∙ sym (falses-none vs (none.0 refl))))
  frozen xs vs b (Some w) e is none items = rw (is, items) refl

  -- one item more, by its value and whether it is there
  pub values-more : (items : List (Option X)) (xs : List X) (k : ℕ) (item e : Option X) (d x : X) → k < length items → length xs ≡ k → item ≡ get_or items k e → x ≡ unwrap_or item d
      → zipped xs (map is_some (take k items)) ≡ take k items → zipped (xs ++ x ∷ []) (map is_some (take (k + 1) items)) ≡ take (k + 1) items
  values-more items xs k item e d x less size is-item is-x done =
      let vs = map is_some (take k items) in
      let n : length vs ≡ length xs = omega (arith, length-map (take k items) is_some, length-take k items, size, less) in
      let more : take (k + 1) items ≡ take k items ++ item ∷ [] = take_more items k e less ∙ ap (λ o. take k items ++ o ∷ []) (sym is-item) in
      ap (λ l. zipped (xs ++ x ∷ []) (map is_some l)) more
      ∙ (ap (zipped (xs ++ x ∷ [])) (map-append is_some (take k items) (item ∷ []))
      ∙ (push-zipped xs vs x (is_some item) n ∙ (ap (λ l. l ++ slot x (is_some item) ∷ []) done
      ∙ (ap (λ y. take k items ++ slot y (is_some item) ∷ []) is-x ∙ (ap (λ o. take k items ++ o ∷ []) (slot-option item d) ∙ sym more)))))

  -- an array of items, by their values and which of them are there
  pub paired : (items : List (Option X)) (xs : List X) (b : BufferStorage X) (vs : List Bool) (bitmap : Option BitmapStorage) → zipped xs (map is_some items) ≡ items → length xs ≡ length items → buffer_items b ≡ xs → vs ≡ map is_some items
      → (IsNone bitmap ↔ (falses vs ≡ 0)) → IfSome bitmap (λ w. items_of w ≡ vs) → zipped (buffer_items b) (items_or_true (length (buffer_items b)) bitmap) ≡ items
  paired items xs b vs bitmap is size held there none some =
      let n = length-map items is_some in
      frozen xs vs b bitmap (omega (arith, n, size, ap length there)) held none some ∙ (ap (zipped xs) there ∙ is)

pub ruleset growing = (arrays, min-le_left, min-le_right, le-min, length-map, length-replicate, length-part, append-true, append-constant, append-part, part-between)
