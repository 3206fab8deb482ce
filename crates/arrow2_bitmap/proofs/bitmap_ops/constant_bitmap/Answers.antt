use Rattle.std.proofs.Common.{◌+◌, ◌/◌, replicate}
use Rattle.std.proofs.lemmas.Result.{IfOk-weaker, MatchResult-weaker}
use Rattle.arrow2_bitmap.proofs.PackedBitmaps.{packed_items, packed_bytes, canonical_zeros}
use Rattle.arrow2_bitmap.proofs.bitmap_ops.constant_bitmap.Goals as goal

pub returns-in_ok-from_len_set-clause-storage : goal.returns-in_ok-from_len_set-clause-storage
returns-in_ok-from_len_set-clause-storage c =
    MatchResult-weaker c.try_from.result c.try_from.ensures (λ b e. packed_items c.in_ok-from_len_set.field-0.items b e.0 e.1) (λ e _. tt)

pub returns-else-value-clause-storage : goal.returns-else-value-clause-storage
returns-else-value-clause-storage c =
    let n = c.args.len in
    IfOk-weaker c.new_zeroed.result _ _ (packed_bytes (replicate ((n + 7) / 8) 0) n (canonical_zeros n)) c.new_zeroed.ensures.storage
