use Rattle.std.proofs.Common.{◌≡◌, ◌∙◌, ◌++◌, List, Bool, ap, refl, subst, arith, rules, length, take, OnOk, length-append}
use Rattle.std.proofs.lemmas.Bool.{false≢true}
use Rattle.arrow2_model.specs.Lists.{unnum, rest}
use Rattle.arrow2_model.proofs.Bits.{length-unnum}
use Rattle.arrow2_packed_bits.proofs.Whole.{moved_on, whole_word, rest_pushed, length-joined, length-word}
use Rattle.arrow2_packed_bits.proofs.packed_bits.PackedBits.push_words.Goals as goal

pub push_word-requires-clause-fits : goal.push_word-requires-clause-fits
push_word-requires-clause-fits c =
    let w = c.loop-word in
    omega (arith, length-joined w.self.items w.chunks.items c.args.self.now.items c.args.chunks.items w.invariant.items, length-word c.in-Some.word w.chunks.items c.next.new.self.items c.in-Some.ensures.steps.items, c.requires)

pub loop-word-preserved : goal.loop-word-preserved
loop-word-preserved c =
    let w = c.loop-word in
    record {
      items = moved_on w.self.items c.push_word.new.self.items w.chunks.items (unnum 64 c.in-Some.word) c.next.new.self.items (c.args.self.now.items ++ c.args.chunks.items) w.invariant.items c.in-Some.ensures.steps.items
          (c.in_ok-push_word.ensures.pushes.ok ∙ ap (λ more. w.self.items ++ more) (whole_word c.in-Some.word));
      capacity = omega (arith, w.invariant.capacity, c.push_word.ensures.pushes.capacity);
    }

pub returns-in_err-push_word : goal.returns-in_err-push_word
returns-in_err-push_word c =
    let w = c.loop-word in
    let joined = length-joined w.self.items w.chunks.items c.args.self.now.items c.args.chunks.items w.invariant.items in
    let left = length-word c.in-Some.word w.chunks.items c.next.new.self.items c.in-Some.ensures.steps.items in
    let wide = ap length (whole_word c.in-Some.word) ∙ length-unnum 64 c.in-Some.word in
    record {
      ok = search rules;
      succeeds = λ h. absurd (false≢true (c.in_err-push_word.ensures.pushes.succeeds (omega (arith, joined, left, wide, w.invariant.capacity, h))));
      capacity = omega (arith, w.invariant.capacity, c.push_word.ensures.pushes.capacity);
    }

-- the items left are the rest
left_over : (c : goal.After-remainder_len) → rest 64 c.next.new.self.items ≡ c.loop-word.chunks.items
left_over c = c.in_default.ensures.steps.rest ∙ c.in_default.ensures.steps.items

pub push_word-requires-2-clause-fits : goal.push_word-requires-2-clause-fits
push_word-requires-2-clause-fits c =
    let w = c.loop-word in
    omega (arith, length-joined w.self.items w.chunks.items c.args.self.now.items c.args.chunks.items w.invariant.items, ap length (left_over c), c.remainder_len.ensures.rest, c.requires)

pub returns : goal.returns
returns c =
    let w = c.loop-word in
    let all : List Bool = c.args.self.now.items ++ c.args.chunks.items in
    let more : List Bool = take c.remainder_len.result (unnum 64 c.remainder.result) in
    let whole : w.self.items ++ more ≡ all =
    rest_pushed w.self.items (w.self.items ++ more) w.chunks.items (rest 64 c.next.new.self.items) all c.remainder_len.result c.remainder.result w.invariant.items (c.in_default.ensures.steps.rest ∙ c.in_default.ensures.steps.items) c.remainder.ensures.rest c.remainder_len.ensures.rest refl in
    let size = length-append w.self.items more in
    let joined = length-append c.args.self.now.items c.args.chunks.items in
    record {
      ok = subst (λ (t : List Bool). OnOk c.push_word-2.result (c.push_word-2.new.self.items ≡ t)) whole c.push_word-2.ensures.pushes.ok;
      succeeds = λ h. c.push_word-2.ensures.pushes.succeeds (omega (arith, size, joined, ap length whole, w.invariant.capacity, h));
      capacity = omega (arith, w.invariant.capacity, c.push_word-2.ensures.pushes.capacity);
    }
