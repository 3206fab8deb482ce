-- The state of an iterator by chunks once one is lent.
use Rattle.std.proofs.Common.{◌≡◌, ◌≤◌, ◌<◌, ◌+◌, ◌-◌, ◌/◌, ◌⊎◌, inl, inr, ℕ, Bool, true, false, nat_le, if◌then◌else◌, List, ◌++◌, length, take, drop, ap, ◌∙◌, refl, arith}
use Rattle.std.proofs.Math.Nat.{div-eq-sub-div}
use Rattle.std.proofs.lemmas.List.{length-append, length-drop, length-take-le, take-append-drop, nil_from_length}
use Rattle.arrow2_model.specs.Lists.{overwrite}
use Rattle.arrow2_bits.specs.ChunksMut.{ChunkCursorMut, chunks_left, next_len, past}

-- one chunk fewer
pub one-fewer : (size left less : ℕ) → 0 < size → size ≤ left → less ≡ left - size → left / size ≡ less / size + 1
one-fewer size left less p h is = rw is (div-eq-sub-div p h)

either : (b : Bool) (n : ℕ) → ((if b then n else 0) ≡ n) ⊎ ((if b then n else 0) ≡ 0)
either true n = inl refl
either false n = inr refl

-- a loan is a whole chunk, where it is not empty
pub whole-chunk : (cursor : ChunkCursorMut) → 0 < next_len cursor → next_len cursor ≡ cursor.size
whole-chunk cursor p = elim (either (nat_le cursor.size (length cursor.bytes - cursor.at)) cursor.size) [
  | inl e ↦ e
  | inr e ↦ absurd (omega (arith, p, e))
]

-- the number of chunks left is that of the bytes ahead, whatever was written
pub left-past : (cursor : ChunkCursorMut) (written : List ℕ) → length written ≡ cursor.size → 0 < cursor.size → cursor.size ≤ length cursor.bytes - cursor.at → chunks_left cursor ≡ chunks_left (past cursor cursor.size written) + 1
left-past cursor written e p h =
    let following = drop (length written) (drop cursor.at cursor.bytes) in
    let same : length (overwrite cursor.bytes cursor.at written) ≡ length cursor.bytes =
    omega (arith, length-append (take cursor.at cursor.bytes) (written ++ following), length-append written following, length-take-le cursor.at cursor.bytes (omega arith), length-drop (length written) (drop cursor.at cursor.bytes), length-drop cursor.at cursor.bytes) in
    one-fewer cursor.size (length cursor.bytes - cursor.at) (length (overwrite cursor.bytes cursor.at written) - (cursor.at + cursor.size)) p h (omega (arith, same))

-- where nothing was lent the iterator stays
pub past-none : (cursor : ChunkCursorMut) (written : List ℕ) → next_len cursor ≡ 0 → length written ≡ 0 → past cursor (next_len cursor) written ≡ cursor
past-none cursor written none e =
    ap (past cursor (next_len cursor)) (nil_from_length written e) ∙ ap (λ (k : ℕ). record cursor { bytes = take cursor.at cursor.bytes ++ drop cursor.at cursor.bytes; at = cursor.at + k }) none
    ∙ ap (λ (items : List ℕ). record cursor { bytes = items; at = cursor.at + 0 }) (take-append-drop cursor.at cursor.bytes) ∙ ap (λ (k : ℕ). record cursor { at = k }) (omega arith)
