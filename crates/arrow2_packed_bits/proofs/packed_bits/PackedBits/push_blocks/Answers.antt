use Rattle.std.proofs.Common.{◌≡◌, ◌∙◌, ◌++◌, List, Bool, ap, subst, arith, rules, length, OnOk, length-append}
use Rattle.std.proofs.lemmas.Bool.{false≢true}
use Rattle.arrow2_model.specs.Lists.{bits}
use Rattle.arrow2_model.proofs.Bits.{length-bits}
use Rattle.arrow2_packed_bits.proofs.Whole.{moved_on, length-joined, length-block}
use Rattle.arrow2_packed_bits.proofs.packed_bits.PackedBits.push_blocks.Goals as goal

pub push_bytes-requires-clause-fits : goal.push_bytes-requires-clause-fits
push_bytes-requires-clause-fits c =
    let w = c.loop-self in
    let joined = length-joined w.self.items w.chunks.items c.args.self.now.items c.args.chunks.items w.invariant.items in
    let left = length-block c.next_block.result w.chunks.items c.next_block.new.chunks.items c.next_block.ensures.items c.next_block.ensures.size in
    omega (arith, joined, left, c.next_block.ensures.size, c.requires.fits)

pub loop-self-preserved : goal.loop-self-preserved
loop-self-preserved c =
    let w = c.loop-self in
    let left = length-block c.next_block.result w.chunks.items c.next_block.new.chunks.items c.next_block.ensures.items c.next_block.ensures.size in
    let grown = ap length c.in_ok-push_bytes.ensures.pushes.ok ∙ length-append w.self.items (bits c.next_block.result) in
    record {
      whole = λ _. omega (arith, grown, length-bits c.next_block.result, c.next_block.ensures.size, w.invariant.whole (omega (arith, left)));
      items = moved_on w.self.items c.push_bytes.new.self.items w.chunks.items (bits c.next_block.result) c.next_block.new.chunks.items (c.args.self.now.items ++ c.args.chunks.items) w.invariant.items c.next_block.ensures.items c.in_ok-push_bytes.ensures.pushes.ok;
      capacity = omega (arith, w.invariant.capacity, c.push_bytes.ensures.pushes.capacity);
    }

pub returns-in_err-push_bytes : goal.returns-in_err-push_bytes
returns-in_err-push_bytes c =
    let w = c.loop-self in
    let joined = length-joined w.self.items w.chunks.items c.args.self.now.items c.args.chunks.items w.invariant.items in
    let left = length-block c.next_block.result w.chunks.items c.next_block.new.chunks.items c.next_block.ensures.items c.next_block.ensures.size in
    record {
      ok = search rules;
      succeeds = λ h. absurd (false≢true (c.in_err-push_bytes.ensures.pushes.succeeds (omega (arith, joined, left, length-bits c.next_block.result, c.next_block.ensures.size, w.invariant.capacity, h))));
      capacity = omega (arith, w.invariant.capacity, c.push_bytes.ensures.pushes.capacity);
    }

pub push_words-requires : goal.push_words-requires
push_words-requires c =
    let w = c.loop-self in
    omega (arith, length-joined w.self.items w.chunks.items c.args.self.now.items c.args.chunks.items w.invariant.items, c.requires.fits)

pub returns : goal.returns
returns c =
    let w = c.loop-self in
    let joined = length-joined w.self.items w.chunks.items c.args.self.now.items c.args.chunks.items w.invariant.items in
    record {
      ok = subst (λ (t : List Bool). OnOk c.push_words.result (c.push_words.new.self.items ≡ t)) w.invariant.items c.push_words.ensures.ok;
      succeeds = λ h. c.push_words.ensures.succeeds (omega (arith, joined, w.invariant.capacity, h));
      capacity = omega (arith, w.invariant.capacity, c.push_words.ensures.capacity);
    }
