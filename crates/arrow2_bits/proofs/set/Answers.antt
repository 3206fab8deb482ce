use Rattle.std.proofs.Common.{◌≡◌, ℕ, ◌*◌, ◌%◌, ◌^◌, Bool, List, false, get_or, set, bit_and, ap, sym, ◌∙◌, arith, get_or-set_same, set-set}
use Rattle.std.specs.Int.{bit_not}
use Rattle.std.specs.Int as width
use Rattle.arrow2_model.specs.Lists.{bit, unnum}
use Rattle.arrow2_model.proofs.Bits.{length-unnum, get_or-unnum, unnum-and-not}
use Rattle.arrow2_model.proofs.Canonical.{unnum-or_bool}
use Rattle.arrow2_bits.proofs.Tables.{kept_at, written_at}
use Rattle.arrow2_bits.proofs.set.Goals as goal

pub returns : goal.returns
returns c =
    let byte = c.args.byte in let i = c.args.i in
    let x : ℕ = bit_and byte (bit_not width.w8 (1 * 2 ^ i % 2 ^ 8)) in
    let cleared : unnum 8 x ≡ set (unnum 8 byte) i false = unnum-and-not width.w8 byte i c.requires in
    let clear : bit x i ≡ false = sym (get_or-unnum 8 x i false c.requires) ∙ (ap (λ (items : List Bool). get_or items i false) cleared ∙ get_or-set_same (unnum 8 byte) i false false (omega (arith, c.requires, length-unnum 8 byte))) in
    rw (kept_at i c.requires, c.from.ensures, written_at i c.args.value c.requires) (unnum-or_bool x i c.args.value c.requires clear ∙ (ap (λ (items : List Bool). set items i c.args.value) cleared ∙ set-set (unnum 8 byte) i false c.args.value))
