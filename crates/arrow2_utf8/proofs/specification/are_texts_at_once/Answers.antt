use Rattle.std.proofs.Common.{length, map, refl, arith}
use Rattle.std.proofs.lemmas.List.{length-map}
use Rattle.arrow2_offset.specs.Offsets.{start_of, lengths_of}
use Rattle.arrow2_offset.proofs.OffsetLists.{length-lengths_of}
use Rattle.arrow2_utf8.proofs.Between.{ascii-between, texts-between, text-from-texts, between-from-texts}
use Rattle.arrow2_utf8.proofs.specification.are_texts_at_once.Goals as goal

pub returns-then-is_ascii : goal.returns-then-is_ascii
returns-then-is_ascii g c =
    let xs = map g.O.Number.value c.args.offsets.now in
    (λ _. ascii-between c.args.values.now (lengths_of xs) (start_of xs) c.position.result c.last_position.result (omega (arith, c.position.ensures)) c.last_position.ensures (omega (arith, c.last_position.ensures, c.requires.inside)) c.if-is_ascii.ensures.cases, λ _. c.if-is_ascii.true)

pub returns-then-is_text : goal.returns-then-is_text
returns-then-is_text g c =
    let items = c.args.offsets.now in
    let xs = map g.O.Number.value items in
    let l = length-lengths_of xs c.requires.valid in
    let m = length-map items g.O.Number.value in (
      λ t. texts-between c.args.values.now (lengths_of xs) (start_of xs) c.position.result c.last_position.result (omega (arith, c.position.ensures)) c.last_position.ensures (length items) (omega (arith, l, m)) (c.if-is_text.ensures.0 refl) (c.stand_between.ensures.0 t),
      λ all. c.stand_between.ensures.1 (λ k _. between-from-texts c.args.values.now (lengths_of xs) (start_of xs) c.position.result c.last_position.result (omega (arith, c.position.ensures)) c.last_position.ensures (omega (arith, c.last_position.ensures, c.requires.inside)) all k),
    )

pub returns-else-is_text : goal.returns-else-is_text
returns-else-is_text g c =
    let xs = map g.O.Number.value c.args.offsets.now in (
      λ t. let no : ⊥ = cc (c.if-is_text.false, t) in absurd no,
      λ all. c.is_text.ensures.1 (text-from-texts c.args.values.now (lengths_of xs) (start_of xs) c.position.result c.last_position.result (omega (arith, c.position.ensures)) c.last_position.ensures all),
    )
