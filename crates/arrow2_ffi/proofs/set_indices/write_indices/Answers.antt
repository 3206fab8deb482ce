use Rattle.std.proofs.Common.{◌≡◌, ◌∙◌, ℕ, ◌+◌, ◌<◌, ◌^◌, List, ◌∷◌, ◌++◌, Bool, length, map, take, ap, sym, subst, refl, arith, IfNone, IfSome, All, append_assoc}
use Rattle.arrow2_model.specs.Lists.{bits, unnum, part}
use Rattle.arrow2_model.proofs.Cursors.{length-part_bits}
use Rattle.arrow2_chunk.specs.Ones.{ones}
use Rattle.arrow2_ffi.specs.SetIndices.{ones_from}
use Rattle.arrow2_ffi.proofs.IndexSteps.{below, front_below, from_index, none_from, word_step}
use Rattle.arrow2_ffi.proofs.set_indices.write_indices.Goals as goal

pub write_ones-written-requires-clause-fit : goal.write_ones-written-requires-clause-fit
write_ones-written-requires-clause-fit c =
    let items : List Bool = part (bits c.args.bits.0.now) c.args.bits.1 c.args.end in
    let base : ℕ = c.words.base in
    let held : ℕ = c.min-held.result in
    let size = length-part_bits c.args.bits.0.now c.args.bits.1 c.args.end c.requires.inside in
    let step = word_step c.args.bits.0.now c.args.bits.1 c.args.end c.requires.inside base held c.word_from.result c.masked-word.result (omega (arith, c.min-held.ensures, c.words-test.true)) (omega (arith, c.min-held.ensures)) c.word_from.ensures c.masked-word.ensures.bits in
    let all = below items base (omega (arith, size, c.words-test.true)) (omega (arith, size, c.ranges.end.fits)) in
    front_below (map (λ k. base + k) (ones (unnum 64 c.masked-word.result))) (ones_from items (base + held)) (subst (All (λ p. p < 2 ^ 64)) step all)

pub words-preserved : goal.words-preserved
words-preserved c =
    let items : List Bool = part (bits c.args.bits.0.now) c.args.bits.1 c.args.end in
    let base : ℕ = c.words.base in
    let held : ℕ = c.min-held.result in
    let count : ℕ = c.write_ones-written.result.0 in
    let indices : List ℕ = c.write_ones-written.new.indices in
    let here : List ℕ = map (λ k. base + k) (ones (unnum 64 c.masked-word.result)) in
    let kept = c.words.invariant in
    let step = word_step c.args.bits.0.now c.args.bits.1 c.args.end c.requires.inside base held c.word_from.result c.masked-word.result (omega (arith, c.min-held.ensures, c.words-test.true)) (omega (arith, c.min-held.ensures)) c.word_from.ensures c.masked-word.ensures.bits in
    let all : take count indices ≡ take c.words.count c.words.indices ++ here = subst (λ r. IfNone r (take count indices ≡ take c.words.count c.words.indices ++ here)) c.in-None.is c.write_ones-written.ensures.all in
    let size = c.write_ones-written.ensures.size in
    record {
      many = size ∙ kept.many;
      few = omega (arith, size, c.write_ones-written.ensures.few);
      inside = omega (arith, c.min-held.ensures, c.words-test.true);
      done =
          ap (λ (ps : List ℕ). ps ++ ones_from items (base + held)) all
          ∙ (append_assoc (take c.words.count c.words.indices) here (ones_from items (base + held))
          ∙ (ap (λ (ps : List ℕ). take c.words.count c.words.indices ++ ps) (sym step) ∙ kept.done));
    }

pub returns-in-Some : goal.returns-in-Some
returns-in-Some c =
    let items : List Bool = part (bits c.args.bits.0.now) c.args.bits.1 c.args.end in
    let base : ℕ = c.words.base in
    let held : ℕ = c.min-held.result in
    let next : ℕ = c.in-Some.next in
    let count : ℕ = c.write_ones-written.result.0 in
    let indices : List ℕ = c.write_ones-written.new.indices in
    let here : List ℕ = map (λ k. base + k) (ones (unnum 64 c.masked-word.result)) in
    let kept = c.words.invariant in
    let size = length-part_bits c.args.bits.0.now c.args.bits.1 c.args.end c.requires.inside in
    let step = word_step c.args.bits.0.now c.args.bits.1 c.args.end c.requires.inside base held c.word_from.result c.masked-word.result (omega (arith, c.min-held.ensures, c.words-test.true)) (omega (arith, c.min-held.ensures)) c.word_from.ensures c.masked-word.ensures.bits in
    let stated = subst (λ r. IfSome r (λ next. (count ≡ length c.words.indices) × (others : List ℕ) × (take count indices ++ next ∷ others ≡ take c.words.count c.words.indices ++ here))) c.in-Some.is c.write_ones-written.ensures.next in
    let following : List ℕ = stated.1 ++ ones_from items (base + held) in
    let all : take count indices ++ next ∷ following ≡ ones_from items c.args.at =
    sym (append_assoc (take count indices) (next ∷ stated.1) (ones_from items (base + held)))
    ∙ (ap (λ (ps : List ℕ). ps ++ ones_from items (base + held)) stated.2
    ∙ (append_assoc (take c.words.count c.words.indices) here (ones_from items (base + held))
    ∙ (ap (λ (ps : List ℕ). take c.words.count c.words.indices ++ ps) (sym step) ∙ kept.done))) in
    let from = from_index items c.args.at next (take count indices) following (omega (arith, size, c.requires.within)) (sym all) in
    record {
      items = ap (λ (ps : List ℕ). take count indices ++ ps) from.2 ∙ all;
      within_capacity = omega (arith, stated.0, kept.many);
      ends = λ h. let no : ⊥ = omega (arith, h, stated.0, kept.many) in absurd no;
      not_back = from.0;
      within = omega (arith, from.1, size);
    }

pub returns : goal.returns
returns c =
    let items : List Bool = part (bits c.args.bits.0.now) c.args.bits.1 c.args.end in
    let kept = c.words.invariant in
    let size = length-part_bits c.args.bits.0.now c.args.bits.1 c.args.end c.requires.inside in
    let ended : c.words.base ≡ c.args.end = omega (arith, kept.inside, c.words-test.false) in
    record {
      items = ap (λ b. take c.words.count c.words.indices ++ ones_from items b) (sym ended) ∙ kept.done;
      within_capacity = omega (arith, kept.few, kept.many);
      ends = λ _. (none_from items c.args.end size, refl);
      not_back = c.requires.within;
      within = omega arith;
    }
