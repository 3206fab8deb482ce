use Rattle.std.proofs.Common.{◌≡◌, ap, length, arith, rules}
use Rattle.arrow2_model.specs.Lists.{bits}
use Rattle.arrow2_model.proofs.Bits.{length-bits}
use Rattle.arrow2_model.proofs.Parts.{length-part}
use Rattle.arrow2_bitmap.proofs.immutable.Bitmap.from_counted.Goals as goal

pub returns : goal.returns
returns c =
    let kept : c.in_ok-bytes.bytes.value ≡ c.args.bytes.items = search rules in
    record {
      ok = search rules;
      items = search rules;
      len = length-part (bits c.in_ok-bytes.bytes.value) 0 c.args.len (omega (arith, length-bits c.in_ok-bytes.bytes.value, ap length kept, c.requires.inside));
      only = search rules;
    }
