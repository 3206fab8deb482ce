use Rattle.std.proofs.Common.{inl, inr, ◌∙◌, ℕ, List, ◌+◌, ◌-◌, ap, arith, slice_index_or, false}
use Rattle.arrow2_model.specs.Lists.{bits}
use Rattle.arrow2_kernels.proofs.AssignSteps.{put_inside, put_outside, word_bit}
use Rattle.arrow2_kernels.proofs.assign.put_word.Goals as goal

pub returns-clause-written : goal.returns-clause-written
returns-clause-written g c i h =
    let k : ℕ = c.args.at + c.args.count - c.args.at in
    let wide = g.met.T.BitChunk.size_law in
    put_inside c.args.bytes.now c.write_over.new.bytes c.args.at k i (omega (arith, c.requires.inside)) (omega (arith, c.write_over.auto.bytes, c.requires.inside)) (omega arith)
    ∙ (ap (λ (ys : List ℕ). slice_index_or (bits ys) i false) c.write_over.ensures
    ∙ word_bit g.T.BitChunk.WIDTH (g.T.BitChunk.number c.args.word) c.args.count i c.as_slice.result.now (ap bits c.as_slice.ensures ∙ c.to_ne_bytes-word.ensures.bits) (omega (arith, wide, c.requires.most)) h)

pub returns-clause-kept : goal.returns-clause-kept
returns-clause-kept g c p h =
    let k : ℕ = c.args.at + c.args.count - c.args.at in
    put_outside c.args.bytes.now c.write_over.new.bytes c.args.at k p (omega (arith, c.requires.inside)) (omega (arith, c.write_over.auto.bytes, c.requires.inside))
    (elim h [ inl before ↦ inl before | inr following ↦ inr (omega (arith, following)) ])
