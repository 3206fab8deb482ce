use Rattle.std.proofs.Common.{◌-◌, length, refl, arith}
use Rattle.std.proofs.lemmas.List.{length-map}
use Rattle.arrow2_offset.proofs.Appending.{value_natural, value_last, same_naturals}
use Rattle.arrow2_utf8.proofs.specification.last_position.Goals as goal

pub as_usize-requires : goal.as_usize-requires
as_usize-requires g c =
    let m = length-map c.args.offsets.now g.O.Number.value in
    value_natural g.O.Number.value c.args.offsets.now c.index-offsets-offsets.result (length c.args.offsets.now - 1) c.requires (omega (arith, m, c.requires.some)) c.index-offsets-offsets.is

pub returns : goal.returns
returns g c = same_naturals _ _ _ c.as_usize.ensures.value (value_last g.O.Number.value c.args.offsets.now c.index-offsets-offsets.result (length c.args.offsets.now) c.requires refl c.index-offsets-offsets.is)
