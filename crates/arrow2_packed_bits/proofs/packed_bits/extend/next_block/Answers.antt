use Rattle.std.proofs.Common.{◌∙◌, ◌++◌, ◌*◌, ◌+◌, ◌-◌, ℕ, List, Bool, ap, sym, refl, arith, length, take_all}
use Rattle.arrow2_model.specs.Lists.{bits}
use Rattle.arrow2_model.proofs.Bits.{bits-nil}
use Rattle.arrow2_packed_bits.proofs.Whole.{word_in_block, length-word_in_block}
use Rattle.arrow2_packed_bits.proofs.packed_bits.extend.next_block.Goals as goal
use Rattle.arrow2_packed_bits.proofs.packed_bits.extend.next_block.Goals.{in-Some, in_default}

pub loop-i-init : goal.loop-i-init
loop-i-init c = record { size = refl; items = ap (λ (b : List Bool). b ++ c.args.chunks.now.items) (sym bits-nil); left = omega (arith, c.requires) }

pub loop-i-preserved : goal.loop-i-preserved
loop-i-preserved c =
    let before = c.loop-i.invariant in
    elim c.match-next.branch [
      | in-Some w ↦
          let step = w.in-Some.ensures.steps in
          record {
            size = length-word_in_block c.loop-i.block c.match-next.block w.copy_from_slice.new.self c.loop-i.i (8 * c.loop-i.i + 8 - 8 * c.loop-i.i) w.in-Some.word w.block-is (ap bits w.copy_from_slice.ensures.after ∙ w.to_ne_bytes.ensures.bits) (omega (arith, before.size, c.loop-i-test.true)) (omega arith) ∙ before.size;
            items = word_in_block c.loop-i.block c.match-next.block w.copy_from_slice.new.self c.loop-i.i (8 * c.loop-i.i + 8 - 8 * c.loop-i.i) w.in-Some.word c.loop-i.chunks.items c.next.new.self.items _
                before.items step.items w.block-is (ap bits w.copy_from_slice.ensures.after ∙ w.to_ne_bytes.ensures.bits) (omega (arith, before.size));
            left = omega (arith, before.left, ap length step.word);
          }
      | in_default w ↦ absurd (omega (arith, before.left, ap length w.in_default.ensures.steps.word.0, c.loop-i-test.true))
    ]

pub returns-clause-items : goal.returns-clause-items
returns-clause-items c = c.loop-i.invariant.items ∙ ap (λ (b : List ℕ). bits b ++ c.loop-i.chunks.items) (take_all (8 * c.loop-i.i) c.loop-i.block (omega (arith, c.loop-i-test.false, c.loop-i.invariant.size)))
