use Rattle.std.proofs.Common.{◌≡◌, ◌∙◌, ◌*◌, ◌≤◌, ◌++◌, List, Bool, ap, drop, take, length, get_or, [], ◌/◌, refl, sym, subst, arith}
use Rattle.arrow2_model.specs.Lists.{bits}
use Rattle.arrow2_model.proofs.Bits.{bits-nil}
use Rattle.arrow2_packed_bits.proofs.PackedWords.{block_at, packed_on, packed_all}
use Rattle.arrow2_packed_bits.proofs.packing.pack_bits.Goals as goal

pub loop-block-init : goal.loop-block-init
loop-block-init c = rw (c.in_ok-bytes.ensures.items, bits-nil) refl

pub loop-block-preserved : goal.loop-block-preserved
loop-block-preserved c =
    let many = c.as_chunks.ensures.front_len in
    let items = c.args.items.now in
    let i = c.loop-block.block-index in
    packed_on items _ c.loop-block.bytes.items c.extend_from_slice.new.self.items c.to_ne_bytes.result i c.word_of.result (omega (arith, many, c.loop-block-test.true)) c.loop-block.invariant (ap (λ blocks. get_or blocks i []) c.as_chunks.ensures.front ∙ block_at (length items / 64) items i [] (omega (arith, many, c.loop-block-test.true))) c.word_of.ensures c.in_ok-extend_from_slice.ensures.items c.to_ne_bytes.ensures.bits

whole : (c : goal.In_ok-extend_from_slice-2) → (length c.args.items.now ≤ 8 * length c.extend_from_slice-2.new.self.items) × (take (length c.args.items.now) (bits c.extend_from_slice-2.new.self.items) ≡ c.args.items.now)
whole c =
    let many = c.as_chunks.ensures.front_len in
    let items = c.args.items.now in
    let at_end : 64 * c.loop-block.block-index ≡ length items / 64 * 64 = omega (arith, many, c.loop-block-test.false, c.loop-block.auto.block-index-end) in
    let back : drop (64 * c.loop-block.block-index) items ≡ c.as_chunks.result.1.now = ap (λ n. drop n items) at_end ∙ sym c.as_chunks.ensures.back in
    packed_all items c.padded_block.result c.as_chunks.result.1.now c.loop-block.bytes.items c.extend_from_slice-2.new.self.items c.to_ne_bytes-2.result c.word_of-last.result (subst (λ (r : List Bool). bits c.loop-block.bytes.items ++ r ≡ items) back c.loop-block.invariant) c.padded_block.ensures.front c.padded_block.ensures.size (omega (arith, c.as_chunks.ensures.back_len)) c.word_of-last.ensures c.in_ok-extend_from_slice-2.ensures.items c.to_ne_bytes-2.ensures.bits

pub returns-clause-enough : goal.returns-clause-enough
returns-clause-enough c = omega (arith, (whole c).0, c.extend_from_slice-2.new.self.ok.0)

pub returns-clause-items : goal.returns-clause-items
returns-clause-items c = (whole c).1
