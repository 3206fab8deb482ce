use Rattle.arrow2_model.proofs.Words256.{read_words}
use Rattle.arrow2_composite.proofs.wide.I256NativeType.from_le_slice.Goals as goal

pub returns : goal.returns
returns c =
    read_words c.args.bytes.now c.from_le_slice-high.result c.from_le_slice-low.result c.from_words.result c.requires
    (record { sfits = c.from_le_slice-high.type_inv }) (record { sfits = c.from_le_slice-low.type_inv })
    c.from_le_slice-low.ensures c.from_le_slice-high.ensures c.from_words.ensures
