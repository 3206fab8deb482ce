use Rattle.std.proofs.Common.{◌≡◌, ◌∙◌, length, ap, sym}
use Rattle.arrow2.specs.Lists.{buffer_items, items_of}
use Rattle.arrow2.specs.Offsets.{lengths_of}
use Rattle.arrow2.specs.Zipped.{zipped}
use Rattle.arrow2.proofs.Zips.{collected_slots}
use Rattle.arrow2_uses.proofs.texts.valid_lengths.Goals as goal

-- the items collected from the zip are its slots
pub returns-clause-lengths : goal.returns-clause-lengths
returns-clause-lengths c =
    let run = c.in_ok-collect.ensures.runs tt in
    let values : c.new-slots.result.values ≡ lengths_of (buffer_items c.args.offsets.now) = c.new-slots.ensures.values ∙ c.lengths.ensures in
    let validity : c.new-slots.result.validity ≡ items_of c.args.validity.now = c.new-slots.ensures.validity ∙ c.iter.ensures.items in
    run.3.0 ∙ (collected_slots (λ s. s) (λ s. s) run.0 c.new-slots.result run.1 run.2 (ap length values ∙ (c.requires.same_length ∙ sym (ap length validity)))
    ∙ (ap (λ vs. zipped vs c.new-slots.result.validity) values ∙ ap (zipped (lengths_of (buffer_items c.args.offsets.now))) validity))
