use Rattle.std.proofs.Common.{◌≡◌, ◌∙◌, length, sym, map, arith}
use Rattle.std.proofs.lemmas.List.{length-map}
use Rattle.arrow2_ffi.specs.declared.codes.TheConstants.{ARROW2_RANGE}
use Rattle.arrow2_ffi.proofs.OffsetCodes.{written_or}
use Rattle.arrow2_ffi.proofs.offsets.calls.rebase_unchecked.Goals as goal

pub returns : goal.returns
returns g c =
    let some : length c.args.out.now ≡ 0 → ⊥ = λ none. let no = rw none at (sym c.if-is_empty.false ∙ c.is_empty.ensures) in cc in
    written_or ARROW2_RANGE (map g.O.Number.value c.args.offsets.now) (λ e. omega (arith, e)) c.requires.valid
    (omega (arith, some))
    (omega (arith, length-map c.args.offsets.now g.O.Number.value, c.if-from-offsets.false, c.if-out-offsets.false))
    c.write_part.ensures
