use Rattle.std.proofs.Common.{◌≡◌, ◌∙◌, List, Bool, take, length, subst, ap, sym, refl, eq-eqb, eqb-true}
use Rattle.arrow2_model.specs.Lists.{bits, unnum, part}
use Rattle.arrow2_model.proofs.Cursors.{length-part_bits}
use Rattle.arrow2_bits.proofs.WordComparison.{as_many_words, ended_alike}
use Rattle.arrow2_bits.proofs.equal.same_bits.Goals as goal

pub loop-word-init : goal.loop-word-init
loop-word-init c =
    let xs : List Bool = part (bits c.args.left.now) c.args.left_offset c.args.len in
    let ys : List Bool = part (bits c.args.right.now) c.args.right_offset c.args.len in
    let size : length xs ≡ length ys = length-part_bits c.args.left.now c.args.left_offset c.args.len c.requires.left ∙ sym (length-part_bits c.args.right.now c.args.right_offset c.args.len c.requires.right) in
    rw (c.new-words.ensures.items, c.new-others.ensures.items) (record {
      long = as_many_words xs ys size;
      alike = ((λ h. h), λ h. h);
      left_following = refl;
      right_following = refl;
    })

pub returns : goal.returns
returns c =
    let xs : List Bool = part (bits c.args.left.now) c.args.left_offset c.args.len in
    let ys : List Bool = part (bits c.args.right.now) c.args.right_offset c.args.len in
    let size : length xs ≡ length ys = length-part_bits c.args.left.now c.args.left_offset c.args.len c.requires.left ∙ sym (length-part_bits c.args.right.now c.args.right_offset c.args.len c.requires.right) in
    let steps = c.in_default.ensures.steps in
    let alike = c.loop-word.invariant in
    let x = c.remainder.result in
    let m = c.masked.result in
    let n = c.masked-2.result in
    let spilled = subst (λ (r : List Bool). take (length r) (unnum 64 x) ≡ r) steps.rest c.remainder.ensures.rest in
    let same = ended_alike xs ys c.loop-word.words.items c.loop-word.others.items m n c.remainder_len-following.result x c.remainder-2.result size steps.word.0 alike.long alike.alike alike.left_following alike.right_following
    spilled c.remainder-2.ensures.rest (c.remainder_len-following.ensures.rest ∙ ap length steps.rest) c.masked.ensures.bits c.masked-2.ensures.bits c.masked.ensures.fits c.masked-2.ensures.fits in
    ((λ h. same.0 (eqb-true m n h)), λ h. eq-eqb m n (same.1 h))
