use Rattle.std.proofs.Common.{◌∙◌, List, Bool, length, refl, sym, slice_index, arith, rules}
use Rattle.arrow2_model.specs.Lists.{word}
use Rattle.arrow2_model.proofs.BitsOfWords.{joined_from}
use Rattle.arrow2_model.proofs.Kernels.{bit-word}
use Rattle.arrow2_ffi.proofs.booleans.write_packed.Goals as goal

pub returns : goal.returns
returns c =
    let items : List Bool = c.args.items.now in
    record {
      items =
          c.write_rows.ensures.items (λ xs. slice_index xs 0) (λ row r words post. search rules)
          ∙ sym (joined_from 64 (word 64 items) (length items) items (omega arith) refl (λ k h. sym (bit-word 64 items k (omega arith))));
      canonical = c.write_rows.ensures.canonical;
    }
