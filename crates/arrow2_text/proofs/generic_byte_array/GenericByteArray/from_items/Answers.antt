use Rattle.std.proofs.Common.{◌∙◌, ◌++◌, ap, map, arith, Err}
use Rattle.arrow2_types.specs.declared.error.Error.TheVariants.{Overflow}
use Rattle.arrow2_text.specs.Growth.{bytes_of_items}
use Rattle.arrow2_text.proofs.CollectedItems.{handed-on, made-bytes, made-items, made-type, no-overflow, not-failed, only-memory, past-all}
use Rattle.arrow2_text.proofs.generic_byte_array.GenericByteArray.from_items.Goals as goal

pub returns-in_err-extend_from_items-clause-overflow : goal.returns-in_err-extend_from_items-clause-overflow
returns-in_err-extend_from_items-clause-overflow g c = λ is.
    let new = c.in_ok-array.ensures in
    past-all g.S.AsItem.item c.args.items.now g.O.OffsetNumber.MAX c.in_ok-array.array.bytes (bytes_of_items (map g.S.AsItem.item c.args.items.now)) new.items.0 new.items.1 (λ h. not-failed _ _ (new.overflow.1 h))
    (c.in_err-extend_from_items.ensures.overflow.0 (ap (λ e. Err e) (handed-on c.from_residual-in_err-extend_from_items.result Overflow c.in_err-extend_from_items.field-0.0 c.from_residual-in_err-extend_from_items.ensures.1 is)))

pub returns-clause-items : goal.returns-clause-items
returns-clause-items g c = made-items c.freeze.result c.freeze.ensures.items (c.in_ok-extend_from_items.ensures.ok ∙ ap (λ l. l ++ map g.S.AsItem.item c.args.items.now) c.in_ok-array.ensures.items.0)

pub returns-clause-data_type : goal.returns-clause-data_type
returns-clause-data_type g c = made-type c.freeze.result c.freeze.ensures.data_type (c.in_ok-extend_from_items.ensures.data_type ∙ c.in_ok-array.ensures.data_type)

pub returns-clause-bytes : goal.returns-clause-bytes
returns-clause-bytes g c = made-bytes c.freeze.result c.freeze.ensures.bytes (omega (arith, c.in_ok-extend_from_items.ensures.ok_bytes, c.in_ok-array.ensures.items.1))

pub returns-clause-overflow : goal.returns-clause-overflow
returns-clause-overflow g c = λ is. absurd (no-overflow c.freeze.result c.freeze.ensures.only is)

pub returns-clause-only : goal.returns-clause-only
returns-clause-only g c = only-memory c.freeze.result c.freeze.ensures.only
