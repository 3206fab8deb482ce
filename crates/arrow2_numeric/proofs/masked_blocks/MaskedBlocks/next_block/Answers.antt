use Rattle.std.proofs.Common.{◌≡◌, ◌++◌, ℕ, ◌+◌, ◌-◌, ◌<◌, Bool, false, zero, suc, inl, inr, length, take, drop, replicate, ap, sym, ◌∙◌, arith, ◌⊎◌, ◌==◌, drop_of_length-le, append-nil, length-append, take_all}
use Rattle.arrow2_model.specs.Lists.{unnum}
use Rattle.arrow2_model.proofs.Bits.{length-unnum}
use Rattle.arrow2_walks.specs.Selections.{selection}
use Rattle.arrow2_numeric.proofs.Selecting.{front-of, block-selected, last-selected, mask-first, mask-last, mask-left}
use Rattle.arrow2_numeric.proofs.masked_blocks.MaskedBlocks.next_block.Goals as goal

-- the words have as many items as there are values, where there is a value
same-length : {a b : ℕ} → (a ≡ 0) ⊎ (b ≡ a) → 0 < a → b ≡ a
same-length (inl e) h = absurd (omega (arith, e, h))
same-length (inr e) h = e

some-values : (n : ℕ) (b : Bool) → b ≡ (n == 0) → b ≡ false → 0 < n
some-values zero b is none = let never = sym is ∙ none in cc
some-values (suc n) b is none = omega arith

pub split_at-requires : goal.split_at-requires
split_at-requires g c =
    let some : 0 < length c.self.inside.values.now = some-values _ _ c.is_empty.ensures c.if-is_empty.false in
    let step = c.in-Some.ensures.steps.items in
    let n = length-append (unnum 64 c.in-Some.word) c.next.new.self.items in
    omega (arith, n, ap length step, length-unnum 64 c.in-Some.word, same-length c.self.invariant some)

pub invariant_of-self-2 : goal.invariant_of-self-2
invariant_of-self-2 g c =
    let some : 0 < length c.self.inside.values.now = some-values _ _ c.is_empty.ensures c.if-is_empty.false in
    let step = c.in-Some.ensures.steps.items in
    let n = length-append (unnum 64 c.in-Some.word) c.next.new.self.items in
    inr (omega (arith, n, ap length step, length-unnum 64 c.in-Some.word, c.split_at.ensures.back_len, same-length c.self.invariant some))

pub returns-clause-block : goal.returns-clause-block
returns-clause-block g c =
    let values = c.self.inside.values.now in
    let items = c.self.inside.words.items in
    let left = c.next.new.self.items in
    let word = unnum 64 c.in-Some.word in
    let step = c.in-Some.ensures.steps.items in
    let cut = c.split_at.ensures in
    let some : 0 < length values = some-values _ _ c.is_empty.ensures c.if-is_empty.false in
    let sized : length items ≡ length values = same-length c.self.invariant some in
    let first = cut.front_len ∙ sym (length-unnum 64 c.in-Some.word) in
    let others : length values ≡ length c.split_at.result.0.now + length c.split_at.result.1.now = omega (arith, cut.front_len, cut.back_len, ap length step, length-append word left, length-unnum 64 c.in-Some.word, sized) in
    record {
      some = omega (arith, cut.front_len);
      few = omega (arith, cut.front_len);
      full = inl cut.front_len;
      values = ap (λ s. s.values) (sym c.self.view_is) ∙ cut.by_index.0;
      count = ap (λ s. length s.values) (sym c.self.view_is) ∙ omega (arith, cut.front_len, cut.back_len);
      bits = mask-first items word left (length values) _ step sized first cut.front_len ∙ ap (λ s. take (length c.split_at.result.0.now) s.mask ++ replicate (64 - length c.split_at.result.0.now) false) c.self.view_is;
      mask = mask-left items word left (length values) _ _ step sized first others ∙ ap (λ s. drop (length c.split_at.result.0.now) s.mask) c.self.view_is;
      selected = ap (λ s. selection s.values s.mask) (sym c.self.view_is) ∙ (ap (selection values) (take_all (length values) items (omega (arith, sized)))
          ∙ (block-selected _ _ _ _ _ _ cut.by_index.0 step first ∙ ap (λ l. selection c.split_at.result.0.now word ++ selection c.split_at.result.1.now l) (sym (take_all _ left (omega (arith, cut.back_len, ap length step, length-append word left, length-unnum 64 c.in-Some.word, sized))))));
    }

pub returns-in_default-clause-block : goal.returns-in_default-clause-block
returns-in_default-clause-block g c =
    let values = c.self.inside.values.now in
    let items = c.self.inside.words.items in
    let n = c.remainder_len.result in
    let steps = c.in_default.ensures.steps in
    let some : 0 < length values = some-values _ _ c.is_empty.ensures c.if-is_empty.false in
    let sized : length items ≡ length values = same-length c.self.invariant some in
    let words = front-of c.remainder.result n items c.next.new.self.items steps.rest steps.items c.remainder.ensures.rest c.remainder_len.ensures.rest in
    let whole = take_all n values (omega (arith, words.1, sized)) in
    let block = ap (λ s. s.now) c.take-block.ensures.value in
    let none = c.take-block.ensures.after in
    let word = unnum 64 c.masked-last.result in
    let mask = take_all (length values) items (omega (arith, sized)) in
    record {
      some = omega (arith, ap length block, some);
      few = omega (arith, ap length block, sized, words.1, c.remainder_len.ensures.short);
      full = inr none;
      values = ap (λ s. s.values) (sym c.self.view_is) ∙ (sym block ∙ (sym (append-nil c.take-block.result.now) ∙ ap (λ l. c.take-block.result.now ++ l) (sym none)));
      count = ap (λ s. length s.values) (sym c.self.view_is) ∙ omega (arith, ap length block, ap length none);
      bits = mask-last items (unnum 64 c.remainder.result) word n (length values) words.0 words.1 sized c.masked-last.ensures.bits
          ∙ (ap (λ k. take k (take (length values) items) ++ replicate (64 - k) false) (sym (ap length block)) ∙ ap (λ s. take (length c.take-block.result.now) s.mask ++ replicate (64 - length c.take-block.result.now) false) c.self.view_is);
      mask = ap (λ l. take (length l) c.next.new.self.items) none ∙ (sym (drop_of_length-le (take (length values) items) (omega (arith, ap length mask, sized, ap length block))) ∙ ap (λ s. drop (length c.take-block.result.now) s.mask) c.self.view_is);
      selected = ap (λ s. selection s.values s.mask) (sym c.self.view_is) ∙ (ap (selection values) mask ∙ (last-selected values items (unnum 64 c.remainder.result) word n whole words.0 c.masked-last.ensures.bits
          ∙ (ap (λ l. selection l word) (sym block) ∙ (sym (append-nil (selection c.take-block.result.now word)) ∙ ap (λ l. selection c.take-block.result.now word ++ selection l (take (length l) c.next.new.self.items)) (sym none)))));
    }
