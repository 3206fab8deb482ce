-- Lists of booleans that are compared item by item.
use Rattle.std.proofs.Common.{◌≡◌, ◌↔◌, List, Bool, refl}
use Rattle.std.specs.Bool.{beq, IsTrue}
use Rattle.std.specs.Cmp.{booleans_Decides}
use Rattle.std.specs.Cmp.Lexicographic.{pointwise}
use Rattle.std.proofs.lemmas.Slice.Eq.{slice_eq-Decides}

-- a comparison of two lists item by item states whether they are one list
pub compared : (xs ys : List Bool) (r : Bool) → r ≡ pointwise beq xs ys → IsTrue r ↔ (xs ≡ ys)
compared xs ys r e = slice_eq-Decides booleans_Decides xs ys r e

pub pointwise-same : (xs ys : List Bool) → IsTrue (pointwise beq xs ys) ↔ (xs ≡ ys)
pointwise-same xs ys = compared xs ys (pointwise beq xs ys) refl

pub ruleset comparing = (compared, pointwise-same)
