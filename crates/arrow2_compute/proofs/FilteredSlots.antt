-- Slots and their validity, filtered apart.
use Rattle.std.proofs.Common.{◌≡◌, ◌∙◌, ◌+◌, List, Bool, true, length, map, replicate, ap, sym, subst, arith, ◌↔◌, Option, Some, None, IfSome, IsNone}
use Rattle.std.proofs.lemmas.List.{length-map, length-replicate}
use Rattle.arrow2_model.specs.Lists.{falses, BitmapStorage, items_of}
use Rattle.arrow2_offset.proofs.NestedLists.{length-cut}
use Rattle.arrow2_bitmap.specs.PackedBitmaps.{IsPacked}
use Rattle.arrow2_text.specs.Binary.{BinaryParts, IsCompact, binary_items, binary_values, slots_between}
use Rattle.arrow2_validity.specs.OptionalValidity.{OptionalValidity, items_or_true, valid_items}
use Rattle.arrow2_validity.proofs.Slots.{zipped-true}
use Rattle.arrow2_validity.proofs.ValidItems.{items-none, items-some}
use Rattle.arrow2_walks.specs.Selections.{selection}
use Rattle.arrow2_walks.specs.Zipped.{zipped}
use Rattle.arrow2_walks.proofs.Selections.{count-selected}
use Rattle.arrow2_walks.proofs.Zipped.{length-zipped, nulls-zipped}
use Rattle.arrow2_numeric.proofs.Selecting.{selected-true, selected-zipped}
use Rattle.arrow2_compute.specs.Sizes.{with_bitmap}
use Rattle.arrow2_compute.proofs.ItemsAtIndices.{known-slots}

-- there is one list of bytes for each slot
length-values : (a : BinaryParts) → length (binary_values a) ≡ slots_between a.offsets
length-values a = length-cut _ _

-- without a validity no slot is null
all-known : (a : BinaryParts) → binary_items (with_bitmap a None) ≡ map (λ x. Some x) (binary_values a)
all-known a =
    ap (zipped (binary_values a)) (items-none (slots_between a.offsets) ∙ ap (λ n. replicate n true) (sym (length-values a)))
    ∙ zipped-true (binary_values a)

-- there are as many items as slots
length-slots : (a : BinaryParts) → length (valid_items a.validity) ≡ slots_between a.offsets → length (binary_items a) ≡ slots_between a.offsets
length-slots a known = length-zipped (binary_values a) (valid_items a.validity) (known ∙ sym (length-values a)) ∙ length-values a

-- also by a validity that was read, and without one
module _ (a : BinaryParts) (w : OptionalValidity) (ms : List Bool) (same : length ms ≡ length (binary_items a)) (is : w ≡ a.validity)
    (slots : length (valid_items w) ≡ slots_between a.offsets) where
  pub mask-slots : length ms ≡ slots_between a.offsets
  mask-slots = same ∙ length-slots a (ap (λ z. length (valid_items z)) (sym is) ∙ slots)

  pub mask-known : (s : BinaryParts) → s ≡ with_bitmap a None → length ms ≡ length (binary_items s)
  mask-known s e =
      let long = ap length (all-known a) ∙ (length-map (binary_values a) (λ x. Some x) ∙ length-values a) in
      mask-slots ∙ (sym long ∙ ap (λ p. length (binary_items p)) (sym e))

-- the slots of `k` are those of `a` that a mask selects, none of them null, and `v` is their validity
pub record AreFiltered (a k : BinaryParts) (ms : List Bool) (v : OptionalValidity) : Type 0 where
  pub known : length (valid_items a.validity) ≡ slots_between a.offsets
  pub same : length ms ≡ slots_between a.offsets
  pub kept : binary_items k ≡ selection (binary_items (with_bitmap a None)) ms
  pub sized : length (valid_items k.validity) ≡ slots_between k.offsets
  pub chosen : valid_items v ≡ selection (valid_items a.validity) ms
  pub counted : v.len + falses ms ≡ length ms

-- by the validities that were read, and the array without its own
pub filtered : (a s k : BinaryParts) (w u v : OptionalValidity) (ms : List Bool) → length ms ≡ length (binary_items a) → w ≡ a.validity → length (valid_items w) ≡ slots_between a.offsets → s ≡ with_bitmap a None
    → binary_items k ≡ selection (binary_items s) ms → u ≡ k.validity → length (valid_items u) ≡ slots_between k.offsets → valid_items v ≡ selection (valid_items w) ms → v.len + falses ms ≡ length ms → AreFiltered a k ms v
filtered a s k w u v ms same is slots all kept also also-slots chosen counted = record {
  known = ap (λ z. length (valid_items z)) (sym is) ∙ slots;
  same = mask-slots a w ms same is slots;
  kept = kept ∙ ap (λ p. selection (binary_items p) ms) all;
  sized = ap (λ z. length (valid_items z)) (sym also) ∙ also-slots;
  chosen = chosen ∙ ap (λ z. selection (valid_items z) ms) is;
  counted = counted;
}

module _ (a k : BinaryParts) (ms : List Bool) (v : OptionalValidity) (f : AreFiltered a k ms v) where
  selected-known : selection (map (λ x. Some x) (binary_values a)) ms ≡ map (λ x. Some x) (selection (binary_values a) ms)
  selected-known =
      let values = binary_values a in
      let n = length values in
      let long = count-selected values ms (f.same ∙ sym (length-values a)) in
      let also = count-selected (replicate n true) ms (f.same ∙ (sym (length-values a) ∙ sym (length-replicate n true))) in
      ap (λ l. selection l ms) (sym (zipped-true values))
      ∙ (selected-zipped values (replicate n true) ms (length-replicate n true)
      ∙ (ap (zipped (selection values ms)) (selected-true n ms ∙ ap (λ m. replicate m true) (omega (arith, long, also)))
      ∙ zipped-true (selection values ms)))

  -- the slots are those that the mask selects
  values-kept : binary_values k ≡ selection (binary_values a) ms
  values-kept = known-slots (binary_values k) (selection (binary_values a) ms) (valid_items k.validity) (f.sized ∙ sym (length-values k))
      (f.kept ∙ (ap (λ l. selection l ms) (all-known a) ∙ selected-known))

  -- there are as many of them as the validity has items
  len-kept : v.len ≡ slots_between k.offsets
  len-kept =
      let long = count-selected (binary_values a) ms (f.same ∙ sym (length-values a)) in
      omega (arith, long, f.counted, ap length values-kept, length-values k)

  length-valid : length (valid_items v) ≡ slots_between k.offsets
  length-valid =
      let long = count-selected (valid_items a.validity) ms (f.same ∙ sym f.known) in
      omega (arith, ap length f.chosen, long, f.counted, len-kept)

  module _ (b : Option BitmapStorage) (left : valid_items (record { len = v.len; bitmap = b }) ≡ valid_items v) where
    same-valid : items_or_true (slots_between k.offsets) b ≡ valid_items v
    same-valid = ap (λ n. items_or_true n b) (sym len-kept) ∙ left

    -- a bitmap has a bit for each of them
    pub bits-kept : (m : BitmapStorage) → b ≡ Some m → length (items_of m) ≡ slots_between k.offsets
    bits-kept m e = ap length (sym (items-some v.len m) ∙ (ap (items_or_true v.len) (sym e) ∙ left)) ∙ length-valid

    -- the items are those that the mask selects
    pub items-kept : binary_items (with_bitmap k b) ≡ selection (binary_items a) ms
    items-kept =
        ap (zipped (binary_values k)) (same-valid ∙ f.chosen)
        ∙ (ap (λ xs. zipped xs (selection (valid_items a.validity) ms)) values-kept
        ∙ sym (selected-zipped (binary_values a) (valid_items a.validity) ms (f.known ∙ sym (length-values a))))

    -- the array is compact, where its bitmap is left out exactly if no item is null
    pub compact-kept : IfSome v.bitmap (λ m. IsPacked m) → IfSome b (λ m. v.bitmap ≡ Some m) → (IsNone b ↔ (falses (valid_items v) ≡ 0)) → IsCompact k → IsCompact (with_bitmap k b)
    compact-kept packed stored none compact =
        let valid = items_or_true (slots_between k.offsets) b in
        let nulls = nulls-zipped (binary_values k) valid (ap length same-valid ∙ (length-valid ∙ sym (length-values k))) in
        record {
          whole = compact.whole;
          offsets = compact.offsets;
          values = compact.values;
          validity = packed-of v.bitmap b packed stored;
          bitmap = rw (nulls, same-valid) none;
        }
      where
        packed-of : (o d : Option BitmapStorage) → IfSome o (λ m. IsPacked m) → IfSome d (λ m. o ≡ Some m) → IfSome d (λ m. IsPacked m)
        packed-of o None packed stored = tt
        packed-of o (Some m) packed stored = subst (λ z. IfSome z (λ m. IsPacked m)) stored packed
