-- Kleene's logic where a validity may be missing.
use Rattle.std.proofs.Common.{◌≡◌, ◌∙◌, ℕ, List, [], ◌∷◌, Bool, true, false, length, ap, get_or, replicate, refl, subst, sym, Option, None, Some}
use Rattle.std.proofs.lemmas.List.{length-replicate, get_or-replicate}
use Rattle.arrow2_model.specs.Lists.{bit}
use Rattle.arrow2_model.specs.Tables.{answer, each}
use Rattle.arrow2_model.proofs.Kernels.{each_from}
use Rattle.arrow2_model.proofs.Cursors.{length-part_bits}
use Rattle.arrow2_ffi.specs.declared.bits_input.Bits.{Bits}
use Rattle.arrow2_array.specs.Kleene.{NullableOperator}
use Rattle.arrow2_ffi.specs.Kleene.{Input, WritesKleene}
use Rattle.arrow2_ffi.specs.Ranges.{first_bits}
use Rattle.arrow2_ffi.specs.Validities.{CoversItems, items_not_null, validity_bits}

pub length-valid_items : (validity : Option Bits) (n : ℕ) → CoversItems (validity_bits validity) n → length (items_not_null (validity_bits validity) n) ≡ n
length-valid_items None n states = length-replicate n true
length-valid_items (Some b) n states = length-part_bits b.0.now b.1 n states

-- without a validity all items are valid
pub all_valid : (validity : Option Bits) (xs : List Bool) (n : ℕ) → validity ≡ None → length xs ≡ n → items_not_null (validity_bits validity) n ≡ replicate (length xs) true
all_valid validity xs n missing size = ap (λ v. items_not_null (validity_bits v) n) missing ∙ ap (λ m. replicate m true) (sym size)

-- with one those whose bit is set
pub given_items : (validity : Option Bits) (b : Bits) (n : ℕ) → validity ≡ Some b → first_bits b n ≡ items_not_null (validity_bits validity) n
given_items validity b n given = sym (ap (λ v. items_not_null (validity_bits v) n) given)

always : (a b : Bool) → answer 15 (a ∷ b ∷ []) ≡ true
unfolding bit
always true true = refl
always true false = refl
always false true = refl
always false false = refl

-- the table that is true of any two inputs
pub all_true : (xs ys : List Bool) → each 15 (xs ∷ ys ∷ []) ≡ replicate (length xs) true
all_true xs ys =
    sym (each_from 15 (xs ∷ ys ∷ []) (replicate (length xs) true) (length-replicate (length xs) true)
    (λ k k<. get_or-replicate (length xs) k true false k< ∙ sym (always (get_or xs k false) (get_or ys k false))))

module _ {code t known n : ℕ} {f : NullableOperator} {l l2 r r2 : Input} {values validity : List ℕ} where
  -- the same call of two inputs that are equal to these
  pub on_equal_inputs : l ≡ l2 → r ≡ r2 → WritesKleene code f t known n l r values validity → WritesKleene code f t known n l2 r2 values validity
  on_equal_inputs left right written =
      subst (λ x. WritesKleene code f t known n l2 x values validity) right (subst (λ x. WritesKleene code f t known n x r values validity) left written)
