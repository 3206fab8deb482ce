use Rattle.std.proofs.Common.{arith}
use Rattle.arrow2_model.specs.Lists.{bits}
use Rattle.arrow2_walks.proofs.CursorSteps.{passed_bits, found_bit, read_following}
use Rattle.arrow2_walks.proofs.cursor.find_bit.Goals as goal

pub returns-then-passed-buffered-clause-first : goal.returns-then-passed-buffered-clause-first
returns-then-passed-buffered-clause-first c =
    let before = c.words.invariant in
    let small = before.read.few in
    found_bit (bits c.args.bytes.now) c.args.offset c.args.at.index c.args.end c.words.index c.words.word c.words.buffered c.args.value before.read
    before.from before.others c.first_bit-passed.result c.if-passed-buffered.true c.first_bit-passed.ensures.others (c.first_bit-passed.ensures.there (omega (arith, c.if-passed-buffered.true, small)))

pub returns-then-passed-buffered-clause-read : goal.returns-then-passed-buffered-clause-read
returns-then-passed-buffered-clause-read c =
    read_following (bits c.args.bytes.now) c.args.offset c.args.at.index c.args.end c.words.index c.words.word c.words.buffered c.args.value c.words.invariant.read c.first_bit-passed.result c.if-passed-buffered.true

pub returns-then-buffered-eq0-clause-first : goal.returns-then-buffered-eq0-clause-first
returns-then-buffered-eq0-clause-first c =
    let before = c.words.invariant in
    let within = before.read.within in
    record {
      from = omega (arith, before.from);
      within = within;
      others = passed_bits (bits c.args.bytes.now) c.args.offset c.args.at.index c.args.end c.words.index c.words.word c.words.buffered c.args.value before.read
          before.others c.words.buffered (omega arith) (λ i l. c.first_bit-passed.ensures.others i (omega (arith, l, c.if-passed-buffered.false)));
      there = λ l. absurd (omega (arith, l, within, c.min-buffered.ensures, c.if-buffered-eq0.true));
    }

pub words-preserved : goal.words-preserved
words-preserved c =
    let before = c.words.invariant in
    let within = before.read.within in
    record {
      from = omega (arith, before.from);
      read = record {
        few = omega (arith, c.min-buffered.ensures);
        within = omega (arith, c.min-buffered.ensures, within);
        same = λ i l. c.word_from-word.ensures i (omega (arith, l, c.min-buffered.ensures));
      };
      others = passed_bits (bits c.args.bytes.now) c.args.offset c.args.at.index c.args.end c.words.index c.words.word c.words.buffered c.args.value before.read
          before.others c.words.buffered (omega arith) (λ i l. c.first_bit-passed.ensures.others i (omega (arith, l, c.if-passed-buffered.false)));
    }
