-- The lemmas on boolean arrays, shared ones and ones that grow.
use Rattle.std.proofs.Common.{◌≡◌, ◌∙◌, ℕ, zero, suc, ◌<◌, List, [], ◌∷◌, ◌++◌, Bool, true, false, length, get_or, map, replicate, refl, ap, sym, arith, Option, Some, None, MatchOption, is_some, unwrap_or, slice_get}
use Rattle.std.specs.Bool.{then_some}
use Rattle.std.proofs.lemmas.List.{length-replicate, length-map}
use Rattle.std.proofs.Math.Nat.{min-le_left, min-le_right, le-min}
use Rattle.arrow2_model.specs.Lists.{BitmapStorage, items_of}
use Rattle.arrow2_model.proofs.Counts.{falses-all_true}
use Rattle.arrow2_model.proofs.Parts.{part-part, length-part}
use Rattle.arrow2_walks.specs.Zipped.{slot, zipped}
use Rattle.arrow2_walks.proofs.Zipped.{append-zipped, at-zipped, push-zipped, slot-option}
use Rattle.arrow2_validity.specs.OptionalValidity.{OptionalValidity, items_or_true, valid_items}
use Rattle.arrow2_validity.proofs.Slots.{arrays, zipped-true}
use Rattle.arrow2_validity.proofs.ValidItems.{items-some}

-- ---- arrays

-- a value at its index
pub found : (xs : List Bool) (k : ℕ) (x : Bool) → k < length xs → x ≡ get_or xs k false → slice_get xs k ≡ Some x
found [] k x h is = absurd (omega (arith, h))
found (y ∷ xs) zero x h is = ap (λ z. Some z) (sym is)
found (y ∷ xs) (suc k) x h is = found xs k x (omega (arith, h)) is

as_slot : (x v : Bool) → then_some v x ≡ slot x v
as_slot x true = refl
as_slot x false = refl

-- an item, from its value and whether it is valid
pub item-at : (xs vs : List Bool) (k : ℕ) (x v : Bool) → length vs ≡ length xs → k < length xs → x ≡ get_or xs k false → v ≡ get_or vs k false → then_some v x ≡ get_or (zipped xs vs) k None
item-at xs vs k x v e h is-x is-v = as_slot x v ∙ (ap (λ y. slot y v) is-x ∙ (ap (slot (get_or xs k false)) is-v ∙ sym (at-zipped xs vs k false e h)))

-- the items by an optional bitmap
pub items-by : (xs : List Bool) (n : ℕ) (validity : Option BitmapStorage) → n ≡ length xs
    → MatchOption validity (zipped xs (items_or_true n validity) ≡ map (λ x. Some x) xs) (λ v. zipped xs (items_or_true n validity) ≡ zipped xs (items_of v))
unfolding items_or_true
items-by xs n None e = ap (λ k. zipped xs (replicate k true)) e ∙ zipped-true xs
items-by xs n (Some v) e = refl

-- the bitmap has the length of the validity that it is taken from
pub length-bitmap : (v : OptionalValidity) (n : ℕ) (b : BitmapStorage) → length (valid_items v) ≡ n → v.bitmap ≡ Some b → length (items_of b) ≡ n
length-bitmap v n b e is = ap length (sym (items-some v.len b)) ∙ (ap (λ o. length (items_or_true v.len o)) (sym is) ∙ e)

pub ruleset booleans = (arrays, falses-all_true, found)

-- ---- arrays that grow

-- one item many times after the others
zipped-replicate : (n : ℕ) (x v : Bool) → zipped (replicate n x) (replicate n v) ≡ replicate n (slot x v)
zipped-replicate zero x v = refl
zipped-replicate (suc n) x v = ap (λ l. slot x v ∷ l) (zipped-replicate n x v)

pub fill-zipped : (xs vs : List Bool) (n : ℕ) (o : Option Bool) (d : Bool) → length vs ≡ length xs → zipped (xs ++ replicate n (unwrap_or o d)) (vs ++ replicate n (is_some o)) ≡ zipped xs vs ++ replicate n o
fill-zipped xs vs n o d e =
    append-zipped xs (replicate n (unwrap_or o d)) vs (replicate n (is_some o)) e
    ∙ ap (λ l. zipped xs vs ++ l) (zipped-replicate n (unwrap_or o d) (is_some o) ∙ ap (replicate n) (slot-option o d))

-- the last item, taken off
pub popped : (xs vs more others : List Bool) (x v : Bool) (o : Option Bool) → length vs ≡ length xs → xs ≡ more ++ x ∷ [] → vs ≡ others ++ v ∷ [] → o ≡ then_some v x → length others ≡ length more → zipped xs vs ≡ zipped more others ++ o ∷ []
popped xs vs more others x v o e is-x is-v is-o f =
    ap (λ l. zipped l vs) is-x ∙ (ap (zipped (more ++ x ∷ [])) is-v ∙ (push-zipped more others x v f ∙ ap (λ z. zipped more others ++ z ∷ []) (sym (as_slot x v) ∙ sym is-o)))

pub ruleset growing = (arrays, fill-zipped, part-part, length-part, length-replicate, length-map, min-le_left, min-le_right, le-min)
