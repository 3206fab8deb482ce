use Rattle.arrow2_datatypes.specs.contracts.DataTypeHash.TheImpl.Laws as of_types
use Rattle.arrow2_datatypes.specs.contracts.field.FieldHash.TheImpl.Laws as of_fields
use Rattle.arrow2_datatypes.proofs.laws.equal_types_hash_alike.Goals as goal

pub returns-clause-types : goal.returns-clause-types
returns-clause-types c = of_types.respects_eq-law

pub returns-clause-fields : goal.returns-clause-fields
returns-clause-fields c = of_fields.respects_eq-law
