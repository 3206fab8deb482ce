-- Items of an array from the values of its slots.
use Rattle.std.proofs.Common.{Bor, ◌≡◌, ℕ, ◌<◌, List, Bool, true, false, length, get_or, ap, sym, refl, ◌∙◌, arith, IfSome, Option, Some, None, IsTrue, is_some, option_copied}
use Rattle.std.specs.Bool.{then_some}
use Rattle.arrow2_walks.specs.Zipped.{slot, zipped}
use Rattle.arrow2_walks.proofs.Zipped.{length-zipped, at-zipped}

slot-some : {X : Type 0} (x : X) (v : Bool) (o : Option X) → o ≡ slot x v → IsTrue (is_some o) → o ≡ Some x
slot-some x true o e some = e
slot-some x false o e some = let no : true ≡ false = sym some ∙ ap is_some e in cc

-- an item that is not null is the value of its slot
pub some-item : {X : Type 0} (xs : List X) (vs : List Bool) (items : List (Option X)) (k : ℕ) (d : X) → length vs ≡ length xs → zipped xs vs ≡ items → k < length items → IsTrue (is_some (get_or items k None)) → get_or items k None ≡ Some (get_or xs k d)
some-item xs vs items k d e is h some =
    let l = length-zipped xs vs e in
    let n = ap length is in
    slot-some (get_or xs k d) (get_or vs k false) (get_or items k None) (ap (λ zs. get_or zs k None) (sym is) ∙ at-zipped xs vs k d e (omega (arith, l, n, h))) some

-- an item by its value and whether it is not null
pub copied-item : {X : Type 0} (x : Bor X) (v : Bool) (item : Option X) → v ≡ is_some item → (IsTrue (is_some item) → item ≡ Some x.now) → option_copied (then_some v x) ≡ item
copied-item x true (Some y) e h = sym (h refl)
copied-item x true None e h = let no : true ≡ false = e in cc
copied-item x false None e h = refl
copied-item x false (Some y) e h = let no : false ≡ true = e in cc

-- what holds of a value holds of its item
pub copied-known : (P : List ℕ → Type 0) (x : Bor (List ℕ)) (v : Bool) (o : Option (Bor (List ℕ))) → o ≡ then_some v x → P x.now → IfSome (option_copied o) P
copied-known P x true o e h = rw e h
copied-known P x false o e h = rw e tt
