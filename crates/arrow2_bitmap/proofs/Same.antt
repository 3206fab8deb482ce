-- The result of `==` of bitmaps.
use Rattle.std.proofs.Common.{◌≡◌, ◌↔◌, ℕ, List, Bool, length, ap, sym, ◌∙◌, nat_eq}
use Rattle.std.specs.Bool.{beq, IsTrue}
use Rattle.std.specs.Cmp.Lexicographic.{pointwise}
use Rattle.std.proofs.lemmas.Bool.Decides.{same_from_decides, Decides-eqb}
use Rattle.std.proofs.lemmas.Slice.Eq.{slice_eq-Decides}
use Rattle.arrow2_model.specs.Lists.{canonical_bytes}
use Rattle.arrow2_model.proofs.Canonical.{same_from_canonical_bytes}
use Rattle.arrow2_model.proofs.Same.{pointwise-same}

-- a result that is true just where the lists are the same
pub same_stated : (xs ys : List Bool) (r : Bool) → IsTrue r ↔ (xs ≡ ys) → r ≡ pointwise beq xs ys
same_stated xs ys r h = same_from_decides r (pointwise beq xs ys) h (pointwise-same xs ys)

-- a result that is about the canonical bytes of lists of equal length
pub same_bytes_stated : (xs ys : List Bool) (a b : List ℕ) (r : Bool) → length xs ≡ length ys → a ≡ canonical_bytes xs → b ≡ canonical_bytes ys → r ≡ pointwise nat_eq a b → r ≡ pointwise beq xs ys
same_bytes_stated xs ys a b r size is-a is-b is =
    let stated = slice_eq-Decides Decides-eqb a b r is in
    same_stated xs ys r (
      (λ h. same_from_canonical_bytes xs ys size (sym is-a ∙ (stated.0 h ∙ is-b))),
      λ same. stated.1 (is-a ∙ (ap canonical_bytes same ∙ sym is-b)),
    )
