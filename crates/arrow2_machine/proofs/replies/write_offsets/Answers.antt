use Rattle.std.proofs.Common.{◌∙◌, ◌+◌, sym, ap, add-one, ◌∷◌, drop, get_or, pos, unsigned_abs, decimal, drop-cons}
use Rattle.arrow2_machine.proofs.WordListLemmas.{first_written, next_written}
use Rattle.arrow2_machine.proofs.replies.write_offsets.Goals as goal

pub loop-offset-init : goal.loop-offset-init
loop-offset-init c = first_written (λ x. decimal (unsigned_abs x)) c.write_magnitude.new.out.items c.args.out.now.items c.in-Some.first.now c.in-Some.others.now c.args.offsets.now c.in-Some.ensures.cases.0 c.in_ok-write_magnitude.ensures

pub loop-offset-preserved : goal.loop-offset-preserved
loop-offset-preserved c =
    let k = c.loop-offset.offset-index in
    let xs = c.in-Some.others.now in
    let x = get_or xs k (pos 0) in
    let step = drop-cons xs k (pos 0) c.loop-offset-test.true ∙ ap (λ n. x ∷ drop n xs) (sym (add-one k)) in
    next_written (λ n. decimal (unsigned_abs n)) c.write_magnitude-in-loop-offset.new.out.items c.push.new.self.items c.loop-offset.out.items x (drop (k + 1) xs) (drop k xs) step c.in_ok-push.ensures.items c.in_ok-write_magnitude-2.ensures ∙ c.loop-offset.invariant
