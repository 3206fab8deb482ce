use Rattle.std.proofs.Common.{◌-◌, length, refl, subst, sym, arith}
use Rattle.std.proofs.lemmas.List.{length-map}
use Rattle.arrow2_offset.proofs.Appending.{same_naturals, value_last, value_natural}
use Rattle.arrow2_offset.proofs.slices.last.Goals as goal

pub as_usize-requires : goal.as_usize-requires
as_usize-requires g c =
    let m = length-map c.args.offsets.now g.O.Number.value in
    value_natural g.O.Number.value c.args.offsets.now c.index-offsets-offsets.result (length c.args.offsets.now - 1) c.requires.valid (omega (arith, m, c.requires.valid.some)) c.index-offsets-offsets.is

pub returns-clause-value : goal.returns-clause-value
returns-clause-value g c = same_naturals c.as_usize.result _ _ c.as_usize.ensures.value (value_last g.O.Number.value c.args.offsets.now c.index-offsets-offsets.result (length c.args.offsets.now) c.requires.valid refl c.index-offsets-offsets.is)

pub returns-clause-bound : goal.returns-clause-bound
returns-clause-bound g c = (g.met.O.OffsetNumber.max_law c.as_usize.result).0 (subst g.O.Number.fits (sym c.as_usize.ensures.value) c.as_usize.ensures.fits)
