-- The texts of whole bitmaps are those of their lists.
use Rattle.std.proofs.Common.{◌≡◌, ◌∙◌, ap, ◌+◌, ◌*◌, ◌/◌, ◌%◌, ◌≤◌, List, Bool, ℕ, length, arith}
use Rattle.arrow2_model.specs.Lists.{part, canonical_bytes, BitmapStorage, items_of}
use Rattle.arrow2_model.specs.Shown.{shown, items_text}
use Rattle.arrow2_model.proofs.Canonical.{length-canonical_bytes, items-canonical_bytes}
use Rattle.arrow2_model.proofs.Bytes.{part-bits-part}
use Rattle.arrow2_model.proofs.Parts.{length-part}
use Rattle.arrow2_model.proofs.Shown.{shown-items}

-- the text of a list's canonical bytes
pub shown-canonical : (items : List Bool) → shown (canonical_bytes items) 0 (length items) ≡ items_text items
shown-canonical items =
    let l = length-canonical_bytes items in
    shown-items (canonical_bytes items) (length items) (omega (arith, l)) ∙ ap items_text (items-canonical_bytes items)

-- the text of a bitmap whose items begin at bit 0
pub shown-storage : (b : BitmapStorage) → b.offset ≡ 0 → b.len ≤ 8 * length b.bytes → shown (part b.bytes (b.offset / 8) ((b.offset % 8 + b.len + 7) / 8)) (b.offset % 8) b.len ≡ items_text (items_of b)
shown-storage b at h =
    let m : ℕ = (b.len + 7) / 8 in
    let inside : m ≤ length b.bytes = omega (arith, h) in
    let n = length-part b.bytes 0 m (omega arith) in
    let start : b.offset / 8 ≡ 0 = omega (arith, at) in
    let within : b.offset % 8 ≡ 0 = omega (arith, at) in
    let count : (b.offset % 8 + b.len + 7) / 8 ≡ m = ap (λ k. (k + b.len + 7) / 8) within ∙ omega arith in
    rw (start, within, at) (ap (λ k. shown (part b.bytes 0 k) 0 b.len) (omega arith) ∙ (shown-items (part b.bytes 0 m) b.len (omega (arith, n)) ∙ ap items_text (part-bits-part b.bytes 0 m 0 b.len 0 (omega arith) (omega arith) (omega arith))))

pub ruleset texts_of_lists = (shown-canonical, shown-storage)
