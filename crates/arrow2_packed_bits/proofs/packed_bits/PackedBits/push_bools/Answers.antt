use Rattle.std.proofs.Common.{◌≡◌, ◌∙◌, ◌+◌, ◌*◌, ◌/◌, ◌++◌, List, Bool, [], ap, arith, rules, length, take, drop, get_or, subst, sym, OnOk}
use Rattle.std.proofs.lemmas.Bool.{false≢true}
use Rattle.arrow2_model.specs.Lists.{unnum}
use Rattle.arrow2_model.proofs.Bits.{length-unnum}
use Rattle.arrow2_packed_bits.proofs.PackedWords.{block_at, block_first, length-block_of, word_items, front_items}
use Rattle.arrow2_packed_bits.proofs.Whole.{moved_on, whole_word, length-append_word}
use Rattle.arrow2_packed_bits.proofs.packed_bits.PackedBits.push_bools.Goals as goal

pub loop-block-preserved : goal.loop-block-preserved
loop-block-preserved c =
    let w = c.loop-block in
    let items = c.args.items.now in
    let i = w.block-index in
    let many = c.as_chunks.ensures.front_len in
    let pushed = c.in_ok-push_word.ensures.pushes.ok in
    let block : List Bool = get_or c.as_chunks.result.0.now i [] in
    let is : block ≡ take 64 (drop (64 * i) items) = ap (λ blocks. get_or blocks i []) c.as_chunks.ensures.front ∙ block_at (length items / 64) items i [] (omega (arith, many, c.loop-block-test.true)) in
    let wide = length-block_of items block i is (omega (arith, many, c.loop-block-test.true)) in
    let word : take 64 (unnum 64 c.word_of.result) ≡ block = whole_word c.word_of.result ∙ word_items block c.word_of.result wide c.word_of.ensures in
    record {
      size = omega (arith, ap length pushed, length-append_word w.self.items 64 c.word_of.result (omega arith), w.invariant.size);
      items = moved_on w.self.items c.push_word.new.self.items (drop (64 * i) items) block (drop (64 * (i + 1)) items) (c.args.self.now.items ++ items) w.invariant.items (block_first items block i is) (pushed ∙ ap (λ (t : List Bool). w.self.items ++ t) word);
      capacity = omega (arith, w.invariant.capacity, c.push_word.ensures.pushes.capacity);
    }

pub returns-in_err-push_word : goal.returns-in_err-push_word
returns-in_err-push_word c =
    let w = c.loop-block in
    let wide = ap length (whole_word c.word_of.result) ∙ length-unnum 64 c.word_of.result in
    record {
      ok = search rules;
      succeeds = λ h. absurd (false≢true (c.in_err-push_word.ensures.pushes.succeeds (omega (arith, wide, w.invariant.size, w.invariant.capacity, c.as_chunks.ensures.front_len, c.loop-block-test.true, h))));
      capacity = omega (arith, w.invariant.capacity, c.push_word.ensures.pushes.capacity);
    }

pub returns : goal.returns
returns c =
    let w = c.loop-block in
    let items = c.args.items.now in
    let rest = c.as_chunks.result.1.now in
    let at_end : 64 * w.block-index ≡ length items / 64 * 64 = omega (arith, c.as_chunks.ensures.front_len, c.loop-block-test.false, w.auto.block-index-end) in
    let left : drop (64 * w.block-index) items ≡ rest = ap (λ n. drop n items) at_end ∙ sym c.as_chunks.ensures.back in
    let last : take (length rest) (unnum 64 c.word_of-2.result) ≡ rest = front_items rest c.padded_block.result c.word_of-2.result c.padded_block.ensures.front c.padded_block.ensures.size c.word_of-2.ensures in
    let whole : w.self.items ++ take (length rest) (unnum 64 c.word_of-2.result) ≡ c.args.self.now.items ++ items = ap (λ (t : List Bool). w.self.items ++ t) (last ∙ sym left) ∙ w.invariant.items in
    record {
      ok = subst (λ (t : List Bool). OnOk c.push_word-2.result (c.push_word-2.new.self.items ≡ t)) whole c.push_word-2.ensures.pushes.ok;
      succeeds = λ h. c.push_word-2.ensures.pushes.succeeds (omega (arith, ap length last, c.as_chunks.ensures.back_len, at_end, w.invariant.size, w.invariant.capacity, h));
      capacity = omega (arith, w.invariant.capacity, c.push_word-2.ensures.pushes.capacity);
    }
