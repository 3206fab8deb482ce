-- The bytes of bitmaps that grow determine their items.
use Rattle.std.proofs.Common.{◌≡◌, ◌↔◌, List, Bool, length, ap, ◌∙◌, sym}
use Rattle.arrow2_model.specs.Lists.{canonical_bytes, BitmapStorage, items_of}
use Rattle.arrow2_model.proofs.Canonical.{same_from_canonical_bytes, items-canonical_bytes}

pub same_bytes : (xs ys : List Bool) → length xs ≡ length ys → (xs ≡ ys) ↔ (canonical_bytes xs ≡ canonical_bytes ys)
same_bytes xs ys l = (λ e. ap canonical_bytes e, same_from_canonical_bytes xs ys l)

-- the storage to which a bitmap of these items is frozen
abbrev pub Frozen : List Bool → BitmapStorage
Frozen items = record { bytes = canonical_bytes items; offset = 0; len = length items }

pub frozen_items : (items : List Bool) (a : BitmapStorage) → a ≡ Frozen items → items_of a ≡ items
frozen_items items a e = ap items_of e ∙ items-canonical_bytes items

pub same_frozen : (xs ys : List Bool) (a b : BitmapStorage) → a ≡ Frozen xs → b ≡ Frozen ys → (xs ≡ ys) ↔ (a ≡ b)
same_frozen xs ys a b e f = (λ h. e ∙ (ap Frozen h ∙ sym f), λ h. sym (frozen_items xs a e) ∙ (ap items_of h ∙ frozen_items ys b f))

pub ruleset canonical = (same_bytes, frozen_items, same_frozen)
