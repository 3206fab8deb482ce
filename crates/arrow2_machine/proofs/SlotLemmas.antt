-- The last item of a list.
use Rattle.std.proofs.Common.{◌≡◌, ◌∙◌, ap, refl, ◌-◌, List, [], ◌∷◌, ◌++◌, length, take, Bool, arith, Some, slice_get}
use Rattle.std.proofs.lemmas.List.{take_at, length_push, get_or_at}
use Rattle.std.proofs.lemmas.Option.{slice_get-get_or}

-- without its last item
pub take_front : (old new : List Bool) (item : Bool) → old ≡ new ++ item ∷ [] → take (length old - 1) old ≡ new
take_front old new item e =
    let n : length old - 1 ≡ length new = omega (arith, ap length e, length_push new item) in
    rw n (rw e (take_at new (item ∷ []) (length new) refl))

-- its last item
pub last_item : (old new : List Bool) (item : Bool) → old ≡ new ++ item ∷ [] → slice_get old (length old - 1) ≡ Some item
last_item old new item e =
    let n : length old - 1 ≡ length new = omega (arith, ap length e, length_push new item) in
    rw n (rw e (slice_get-get_or (new ++ item ∷ []) (length new) item (omega (arith, length_push new item)) ∙ ap Some (get_or_at new item [] item (length new) refl)))

pub ruleset popping = (take_front, last_item)
