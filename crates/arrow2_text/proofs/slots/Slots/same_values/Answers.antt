use Rattle.std.proofs.Common.{◌≡◌, ◌∙◌, Decides, ap, length, sym, rules}
use Rattle.arrow2_model.specs.Lists.{buffer_items}
use Rattle.arrow2_offset.specs.Offsets.{lengths_of, start_of}
use Rattle.arrow2_text.proofs.SameSlots.{values-alike}
use Rattle.arrow2_text.proofs.slots.Slots.same_values.Goals as goal

pub returns-then-same_lengths : goal.returns-then-same_lengths
returns-then-same_lengths g c =
    let bytes : Decides c.eq.result (c.bytes_of-bytes.result.now ≡ c.bytes_of-others.result.now) = search rules in
    let mine = c.bytes_of-bytes.ensures in
    let others = c.bytes_of-others.ensures in
    let a = c.args.self.now in
    let b = c.args.other.now in
    let alike = values-alike (buffer_items a.values) (buffer_items b.values) (start_of (buffer_items a.offsets)) (start_of (buffer_items b.offsets)) (lengths_of (buffer_items a.offsets)) (lengths_of (buffer_items b.offsets)) c.args.start c.args.len (ap length (sym mine.bytes) ∙ mine.len) (ap length (sym others.bytes) ∙ others.len) in
    (λ yes. alike.1 (c.same_lengths.ensures.0 c.if-same_lengths.true, sym mine.bytes ∙ (bytes.0 yes ∙ others.bytes)), λ same. bytes.1 (mine.bytes ∙ ((alike.0 same).1 ∙ sym others.bytes)))

pub returns-else-same_lengths : goal.returns-else-same_lengths
returns-else-same_lengths g c =
    let mine = c.bytes_of-bytes.ensures in
    let others = c.bytes_of-others.ensures in
    let a = c.args.self.now in
    let b = c.args.other.now in
    let alike = values-alike (buffer_items a.values) (buffer_items b.values) (start_of (buffer_items a.offsets)) (start_of (buffer_items b.offsets)) (lengths_of (buffer_items a.offsets)) (lengths_of (buffer_items b.offsets)) c.args.start c.args.len (ap length (sym mine.bytes) ∙ mine.len) (ap length (sym others.bytes) ∙ others.len) in
    (λ yes. cc, λ same. c.same_lengths.ensures.1 (alike.0 same).0)
