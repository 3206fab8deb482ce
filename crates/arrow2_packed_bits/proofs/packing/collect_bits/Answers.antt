use Rattle.std.proofs.Common.{◌≡◌, ◌∙◌, ◌+◌, ◌++◌, List, Bool, refl, subst, sym, ap, length, take, arith, length-append}
use Rattle.std.specs.Iterator.{Yields}
use Rattle.std.proofs.iter.runs.Made.{run_of_exit}
use Rattle.arrow2_model.specs.Lists.{bits}
use Rattle.arrow2_model.proofs.Bits.{bits-nil, length-bits}
use Rattle.arrow2_packed_bits.proofs.PackedWords.{Yields-append, block_following, front_following, too_many}
use Rattle.arrow2_packed_bits.proofs.packing.collect_bits.Goals as goal

pub words-init : goal.words-init
words-init g c = record {
  wide = omega arith;
  whole = omega (arith, ap length c.new-bytes.ensures.items);
  fits = omega (arith, ap length c.new-bytes.ensures.items);
  can = c.requires.can;
  ends = c.requires.ends;
  took = subst (λ (xs : List Bool). Yields g.I.Iterator.next_gives c.args.items xs c.args.items) (sym (ap bits c.new-bytes.ensures.items ∙ bits-nil)) refl;
}

-- the items that came are the bytes and the front of the block, and no more comes
pub returns-then-count-lt64-clause-items : goal.returns-then-count-lt64-clause-items
returns-then-count-lt64-clause-items g c =
    let steps = g.I.Iterator.next_gives in
    let ended = c.fill-count.ensures.ended c.if-count-lt64.true in
    let front : List Bool = take c.fill-count.result c.fill-count.new.block in
    let came = Yields-append steps c.args.items c.words.items ended.0 (bits c.words.bytes.items) front c.words.invariant.took ended.1 in
    let ran = run_of_exit steps c.args.items (bits c.words.bytes.items ++ front) ended.0 came c.fill-count.new.items ended.2 in
    let held = front_following c.words.bytes.items c.extend_from_slice.new.self.items c.to_ne_bytes-word.result c.fill-count.new.block c.fill-count.result c.bytes_for.result c.len.result c.word_of.result
    c.if-count-lt64.true c.bytes_for.ensures (omega (arith, c.len.ensures, c.words.bytes.ok.0)) c.fill-count.ensures.size c.word_of.ensures c.to_ne_bytes-word.ensures.bits c.in_ok-extend_from_slice.ensures.items in
    (ran.0, ran.1, ran.2, held ∙ sym ran.3.0)

pub returns-then-len-clause-overflow : goal.returns-then-len-clause-overflow
returns-then-len-clause-overflow g c _ =
    too_many g.I.Iterator.next_gives c.args.items c.words.items c.fill-count.new.items (bits c.words.bytes.items) c.fill-count.new.block c.words.invariant.took (c.fill-count.ensures.full (omega (arith, c.fill-count.ensures.few, c.if-count-lt64.false)))
    c.fill-count.ensures.size (omega (arith, length-bits c.words.bytes.items, c.len-in-words.ensures, c.words.bytes.ok.0, c.if-len.true))

pub words-preserved : goal.words-preserved
words-preserved g c =
    let before = c.words.invariant in
    let all : c.fill-count.result ≡ 64 = omega (arith, c.fill-count.ensures.few, c.if-count-lt64.false) in
    let goes = c.fill-count.ensures.goes all in
    let grown : length c.extend_from_slice-in-words.new.self.items ≡ length c.words.bytes.items + 8 = ap length c.in_ok-extend_from_slice-2.ensures.items ∙ omega (arith, length-append c.words.bytes.items c.to_ne_bytes-word.result, c.to_ne_bytes-word.ensures.size) in
    let held = block_following c.words.bytes.items c.extend_from_slice-in-words.new.self.items c.to_ne_bytes-word.result c.fill-count.new.block c.word_of.result c.fill-count.ensures.size c.word_of.ensures c.to_ne_bytes-word.ensures.bits c.in_ok-extend_from_slice-2.ensures.items in
    record {
      wide = c.fill-count.ensures.size;
      whole = omega (arith, grown, before.whole);
      fits = omega (arith, grown, before.whole, before.fits, c.len-in-words.ensures, c.words.bytes.ok.0, c.if-len.false);
      can = goes.0;
      ends = goes.1;
      took = subst (λ (xs : List Bool). Yields g.I.Iterator.next_gives c.args.items xs c.fill-count.new.items) (sym held)
          (Yields-append g.I.Iterator.next_gives c.args.items c.words.items c.fill-count.new.items (bits c.words.bytes.items) c.fill-count.new.block before.took (c.fill-count.ensures.full all));
    }
