use Rattle.std.proofs.Common.{◌≡◌, ◌∙◌, ◌++◌, length, take, ap, sym, refl, arith, length-append}
use Rattle.std.proofs.lemmas.Grind.{common_steps}
use Rattle.arrow2_model.specs.Lists.{unnum, items_of}
use Rattle.arrow2_model.proofs.Bits.{length-unnum}
use Rattle.arrow2_model.proofs.Words.{rest-none}
use Rattle.arrow2_walks.specs.Selections.{selection}
use Rattle.arrow2_walks.proofs.Selections.{length-selected}
use Rattle.arrow2_numeric.proofs.Selecting.{block-step, front-of, word-kept, word-fits, last-kept, last-fits}
use Rattle.arrow2_compute.proofs.filter.selected_bits.Goals as goal
use Rattle.arrow2_compute.proofs.filter.selected_bits.Goals.{After-unwrap_or-block, After-remainder-2}

-- the bits that are left begin with the block
block_first : (c : After-unwrap_or-block) → c.loop-word.blocks.items ≡ unnum 64 c.unwrap_or-block.result ++ c.next-in-Some.new.self.items
block_first c =
    let n = length-unnum 64 c.in-Some.word in
    let long = length-append (unnum 64 c.in-Some.word) c.next.new.self.items in
    block-step c.loop-word.blocks.items c.next-in-Some.new.self.items c.next-in-Some.result c.next-in-Some.ensures.steps.items (omega (arith, n, long, ap length c.in-Some.ensures.steps.items, c.loop-word.invariant.same_length))
    ∙ ap (λ b. unnum 64 b ++ c.next-in-Some.new.self.items) (sym c.unwrap_or-block.ensures)

pub push_bits-requires : goal.push_bits-requires
push_bits-requires c =
    let all = length-selected (items_of c.args.bitmap.now) (items_of c.args.mask.now) in
    let same = length-unnum 64 c.unwrap_or-block.result ∙ sym (length-unnum 64 c.in-Some.word) in
    let fits = word-fits c.loop-word.kept.items _ _ _ _ _ _ _ (block_first (goal.at.push_bits-requires c).After-unwrap_or-block) c.in-Some.ensures.steps.items same c.loop-word.invariant.done in
    record { fits = omega (arith, fits, all, c.chunks-blocks.ensures.fits) }

pub loop-word-preserved : goal.loop-word-preserved
loop-word-preserved c =
    let block = block_first (goal.at.loop-word-preserved c).After-unwrap_or-block in
    let step = c.in-Some.ensures.steps.items in
    let n = length-unnum 64 c.in-Some.word in
    let m = length-unnum 64 c.unwrap_or-block.result in
    let long = length-append (unnum 64 c.in-Some.word) c.next.new.self.items in
    let also = length-append (unnum 64 c.unwrap_or-block.result) c.next-in-Some.new.self.items in
    record {
      same_length = omega (arith, n, m, long, also, ap length step, ap length block, c.loop-word.invariant.same_length);
      done = word-kept c.loop-word.kept.items _ _ _ _ _ _ _ _ block step (m ∙ sym n) c.in_ok-push_bits.ensures.ok c.loop-word.invariant.done;
    }

-- the first bits of both remainders are the bits that are left
remainders : (c : After-remainder-2) → (take c.remainder_len.result (unnum 64 c.remainder.result) ≡ c.loop-word.words.items) × (take c.remainder_len.result (unnum 64 c.remainder-2.result) ≡ c.loop-word.blocks.items)
remainders c =
    let steps = c.in_default.ensures.steps in
    let words = front-of c.remainder.result _ c.loop-word.words.items c.next.new.self.items steps.rest steps.items c.remainder.ensures.rest c.remainder_len.ensures.rest in
    let same = c.loop-word.invariant.same_length in
    let none = rest-none 64 c.loop-word.blocks.items (omega (arith, words.1, same, c.remainder_len.ensures.short)) in
    let blocks = front-of c.remainder-2.result _ c.loop-word.blocks.items c.loop-word.blocks.items refl none c.remainder-2.ensures.rest (omega (arith, words.1, same, ap length none)) in
    (words.0, blocks.0)

pub push_bits-requires-2 : goal.push_bits-requires-2
push_bits-requires-2 c =
    let all = length-selected (items_of c.args.bitmap.now) (items_of c.args.mask.now) in
    let both = remainders (goal.at.push_bits-requires-2 c).After-remainder-2 in
    let fits = last-fits c.loop-word.kept.items _ _ _ _ _ c.remainder_len.result _ both.1 both.0 c.masked-last.ensures.bits c.loop-word.invariant.done in
    record { fits = omega (arith, fits, all, c.chunks-blocks.ensures.fits) }

pub returns-clause-items : goal.returns-clause-items
returns-clause-items c =
    let both = remainders (goal.at.returns-clause-items c).After-remainder-2 in
    let all : c.push_bits-2.new.kept.items ≡ selection (items_of c.args.bitmap.now) (items_of c.args.mask.now) = last-kept c.loop-word.kept.items _ _ _ _ _ _ c.remainder_len.result _ both.1 both.0 c.masked-last.ensures.bits c.in_ok-push_bits-2.ensures.ok c.loop-word.invariant.done in
    grind (arith, common_steps, all)
