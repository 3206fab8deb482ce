use Rattle.std.proofs.Common.{◌∙◌, ◌/◌, ◌%◌, ap, arith, rules, length, take, length-take-le}
use Rattle.std.proofs.lemmas.Bool.{false≢true}
use Rattle.arrow2_model.specs.Lists.{bits, unnum}
use Rattle.arrow2_model.proofs.Bits.{length-bits, length-unnum}
use Rattle.arrow2_packed_bits.proofs.Whole.{pushed_front, pushed_whole_front, length-append_bits}
use Rattle.arrow2_packed_bits.proofs.packed_bits.PackedBits.push_front.Goals as goal

pub returns-in_err-push_bytes : goal.returns-in_err-push_bytes
returns-in_err-push_bytes c =
    let whole = take (c.args.count / 8) c.args.slice.now in
    let size = length-bits whole in
    let bytes = length-take-le (c.args.count / 8) c.args.slice.now (omega (arith, c.requires.inside)) in
    let all = length-take-le c.args.count (bits c.args.slice.now) (omega (arith, length-bits c.args.slice.now, c.requires.inside)) in
    record {
      ok = search rules;
      succeeds = λ h. absurd (false≢true (c.in_err-push_bytes.ensures.pushes.succeeds (omega (arith, size, bytes, all, h))));
      capacity = c.push_bytes.ensures.pushes.capacity;
    }

pub push_word-requires-clause-fits : goal.push_word-requires-clause-fits
push_word-requires-clause-fits c =
    let whole = take (c.args.count / 8) c.args.slice.now in
    omega (arith, ap length c.in_ok-push_bytes.ensures.pushes.ok ∙ length-append_bits c.args.self.now.items whole, length-take-le (c.args.count / 8) c.args.slice.now (omega (arith, c.requires.inside)), c.requires.fits)

pub returns-in_err-push_word : goal.returns-in_err-push_word
returns-in_err-push_word c =
    let whole = take (c.args.count / 8) c.args.slice.now in
    let size = ap length c.in_ok-push_bytes.ensures.pushes.ok ∙ length-append_bits c.args.self.now.items whole in
    let bytes = length-take-le (c.args.count / 8) c.args.slice.now (omega (arith, c.requires.inside)) in
    let last = length-take-le (c.args.count % 8) (unnum 64 c.from.result) (omega (arith, length-unnum 64 c.from.result)) in
    let all = length-take-le c.args.count (bits c.args.slice.now) (omega (arith, length-bits c.args.slice.now, c.requires.inside)) in
    record {
      ok = search rules;
      succeeds = λ h. absurd (false≢true (c.in_err-push_word.ensures.pushes.succeeds (omega (arith, size, bytes, last, all, c.push_bytes.ensures.pushes.capacity, h))));
      capacity = omega (arith, c.push_bytes.ensures.pushes.capacity, c.push_word.ensures.pushes.capacity);
    }

pub returns-in_ok-push_word : goal.returns-in_ok-push_word
returns-in_ok-push_word c = record {
  ok = pushed_front c.args.slice.now c.args.self.now.items c.push_bytes.new.self.items c.push_word.new.self.items c.args.count c.from.result c.requires.inside c.if-rest-gt0.true c.in_ok-push_bytes.ensures.pushes.ok c.in_ok-push_word.ensures.pushes.ok c.from.ensures;
  succeeds = search rules;
  capacity = omega (arith, c.push_bytes.ensures.pushes.capacity, c.push_word.ensures.pushes.capacity);
}

pub returns-else-rest-gt0 : goal.returns-else-rest-gt0
returns-else-rest-gt0 c = record {
  ok = pushed_whole_front c.args.slice.now c.args.self.now.items c.push_bytes.new.self.items c.args.count c.requires.inside (omega (arith, c.if-rest-gt0.false)) c.in_ok-push_bytes.ensures.pushes.ok;
  succeeds = search rules;
  capacity = c.push_bytes.ensures.pushes.capacity;
}
