-- The laws of offsets.
use Rattle.std.proofs.Common.{◌≡◌, ◌↔◌, ℕ, ℤ, ◌+◌, ◌≤◌, List, ◌∷◌, ◌++◌, map, length, ap, sym, ◌∙◌, arith, pos}
use Rattle.std.proofs.Math.Seq.{take-length}
use Rattle.arrow2_model.specs.Lists.{BufferStorage, buffer_items, whole_buffer}
use Rattle.arrow2_offset.specs.Offsets.{running_sums, offsets_list, offset_at, last_offset, start_of, lengths_of, GrowingOffsets, SameOffsets, offsets_of}
use Rattle.arrow2_offset.proofs.OffsetLists.{spelled, AreOffsets-list, lengths_of-list, start_of-list, running_sums-append, length-running_sums, get_or-offsets_list}
use Rattle.arrow2_offset.proofs.Growing.{sum-take-le}

pub at_most_last : (start : ℕ) (ns : List ℕ) (k : ℕ) → offset_at start ns k ≤ last_offset start ns
at_most_last start ns k = let h = sum-take-le ns k in omega arith

pub length-offsets_list : (start : ℕ) (ns : List ℕ) → length (offsets_list start ns) ≡ length ns + 1
length-offsets_list start ns = let l = length-running_sums start ns in omega arith

pub append-offsets_list : (start : ℕ) (ms ns : List ℕ) → offsets_list start (ms ++ ns) ≡ offsets_list start ms ++ running_sums (last_offset start ms) ns
append-offsets_list start ms ns = ap (λ t. start ∷ t) (running_sums-append start ms ns)

pub distinguished : (a b : ℕ) (ms ns : List ℕ) → offsets_list a ms ≡ offsets_list b ns ↔ ((a ≡ b) × (ms ≡ ns))
distinguished a b ms ns = (
  (λ e.
      let same = ap (map pos) e in
      (ap start_of same, sym (lengths_of-list a ms) ∙ (ap lengths_of same ∙ lengths_of-list b ns))),
  λ e. ap (λ s. offsets_list s ms) e.0 ∙ ap (offsets_list b) e.1,
)

-- offsets that are the same, and the same again
pub there_and_back : (a b c : GrowingOffsets) → SameOffsets a b → SameOffsets b c → offsets_of c ≡ offsets_of a
there_and_back a b c d e = ap (λ s. offsets_list s c.lengths) (e.0 ∙ d.0) ∙ ap (offsets_list a.start) (e.1 ∙ d.1)

-- and a shared list, copied twice
pub copied_back : (a b c : BufferStorage ℤ) → b ≡ whole_buffer (buffer_items a) → c ≡ whole_buffer (buffer_items b) → buffer_items c ≡ buffer_items a
copied_back a b c d e = ap buffer_items e ∙ (take-length (buffer_items b) ∙ (ap buffer_items d ∙ take-length (buffer_items a)))

pub ruleset listed = (spelled, AreOffsets-list, lengths_of-list, start_of-list, get_or-offsets_list, at_most_last, length-offsets_list, append-offsets_list, distinguished, there_and_back, copied_back)
