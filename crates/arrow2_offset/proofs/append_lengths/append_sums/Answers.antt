use Rattle.std.proofs.Common.{◌≡◌, ◌∙◌, ◌++◌, ◌∷◌, [], ap, sym, subst, arith, rules, length, map, refl, pos}
use Rattle.std.proofs.lemmas.List.{length-map, length-append, append-nil, take_all}
use Rattle.std.proofs.iter.Next.{Yields-more}
use Rattle.std.proofs.iter.runs.Made.{run_of_exit}
use Rattle.std.specs.Iterator.{Yields}
use Rattle.arrow2_offset.specs.Offsets.{start_of, lengths_of}
use Rattle.arrow2_offset.proofs.Appending.{same_naturals, value_last, pushed, front_stays, sum-push}
use Rattle.arrow2_offset.proofs.Growing.{length_slots}
use Rattle.arrow2_offset.proofs.append_lengths.append_sums.Goals as goal
use Rattle.arrow2_offset.proofs.append_lengths.append_sums.Goals.{then-len-capacity+else-last-greatest+else-is_err, else-len-capacity}

pub loop-length-init : goal.loop-length-init
loop-length-init g c =
    let v = g.O.Number.value in
    let items = c.args.offsets.items in
    let is = value_last v items c.index.result.now c.len.result c.requires.valid.0 (c.len.ensures ∙ c.args.offsets.ok.0) c.index.ensures in
    let some = c.requires.valid.0.some in
    let many = length-map items v in
    record {
      last = same_naturals c.as_usize-last.result _ _ c.as_usize-last.ensures.value is ∙ omega arith;
      grown = λ _. (c.requires.valid.0, (refl {a = start_of (map v items)}, sym (append-nil (lengths_of (map v items)))));
      front = take_all (length items) items (omega arith);
      more = omega arith;
      spare = omega arith;
      small = omega (arith, some, many);
    }

pub loop-length-preserved : goal.loop-length-preserved
loop-length-preserved g c =
    let kept = c.loop-length.invariant in
    let v = g.O.Number.value in
    let offsets = map v c.args.offsets.items in
    let old = c.loop-length.offsets.items in
    let new = c.push_reserved.new.self.items in
    let item = c.from_low_bits.result in
    let grown : new ≡ old ++ item ∷ [] = elim c.if-len-capacity.branch [
      | then-len-capacity+else-last-greatest+else-is_err w ↦ search rules
      | else-len-capacity w ↦ search rules
    ] in
    let long = ap length grown in
    let n = length-append old (item ∷ []) in
    let m = length-append c.loop-length.yielded (c.in-Some.length ∷ []) in
    let sums = sum-push c.loop-length.yielded c.in-Some.length in
    record {
      last = omega (arith, kept.last, sums);
      grown = λ h. pushed v offsets c.loop-length.yielded c.in-Some.length old new item (kept.grown (omega (arith, h))) grown (c.from_low_bits.ensures h ∙ ap pos (omega (arith, kept.last)));
      front = front_stays c.args.offsets.items old new item kept.front (omega (arith, kept.more)) grown;
      more = omega (arith, long, n, m, kept.more);
      spare = elim c.if-len-capacity.branch [
        | then-len-capacity+else-last-greatest+else-is_err w ↦ search rules
        | else-len-capacity w ↦ search rules
      ];
      small = omega (arith, long, n, kept.small);
    }

pub returns-clause-ok : goal.returns-clause-ok
returns-clause-ok g c =
    let it = c.into_iter-length-iterator in
    let kept = c.loop-length.invariant in
    let ran = run_of_exit g.I.Iterator.next_gives it.result c.loop-length.yielded c.loop-length.length-iterator c.loop-length.yielded_by c.next.new.self c.in-None.ensures.steps in
    let by = (kept.grown (omega arith)).1 in
    (ran.0, ran.1 ∙ it.ensures.into_iter_gives, ran.2, (by.0, by.1 ∙ ap (λ t. lengths_of (map g.O.Number.value c.args.offsets.items) ++ t) (sym ran.3.0)))

pub returns-then-last-greatest-clause-overflow : goal.returns-then-last-greatest-clause-overflow
returns-then-last-greatest-clause-overflow g c = λ _.
    let kept = c.loop-length.invariant in
    let more = Yields-more g.I.Iterator.next_gives c.into_iter-length-iterator.result c.loop-length.yielded c.loop-length.length-iterator c.in-Some.length c.next.new.self c.loop-length.yielded_by c.in-Some.ensures.steps in
    let sums = sum-push c.loop-length.yielded c.in-Some.length in
    (c.loop-length.yielded ++ c.in-Some.length ∷ [], c.next.new.self, subst (λ s. Yields g.I.Iterator.next_gives s (c.loop-length.yielded ++ c.in-Some.length ∷ []) c.next.new.self) c.into_iter-length-iterator.ensures.into_iter_gives more, omega (arith, sums, kept.last, c.if-last-greatest.true, c.MAX-greatest.ensures))

pub returns-then-is_err-clause-out_of_memory : goal.returns-then-is_err-clause-out_of_memory
returns-then-is_err-clause-out_of_memory g c = λ _.
    let kept = c.loop-length.invariant in
    let more = Yields-more g.I.Iterator.next_gives c.into_iter-length-iterator.result c.loop-length.yielded c.loop-length.length-iterator c.in-Some.length c.next.new.self c.loop-length.yielded_by c.in-Some.ensures.steps in
    let n = length-append c.loop-length.yielded (c.in-Some.length ∷ []) in
    let slots = length_slots g.O.Number.value c.args.offsets.items (length c.args.offsets.items) c.requires.valid.0 refl in
    let full = c.if-len-capacity.true in
    (c.loop-length.yielded ++ c.in-Some.length ∷ [], c.next.new.self, subst (λ s. Yields g.I.Iterator.next_gives s (c.loop-length.yielded ++ c.in-Some.length ∷ []) c.next.new.self) c.into_iter-length-iterator.ensures.into_iter_gives more, omega (arith, n, slots, kept.more, kept.spare, full, c.capacity.ensures, c.len-in-loop-length.ensures, c.loop-length.offsets.ok.0, c.args.offsets.ok.0))
