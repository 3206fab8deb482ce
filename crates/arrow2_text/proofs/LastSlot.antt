-- The last slot, taken off.
use Rattle.std.proofs.Common.{◌≡◌, ℕ, ◌+◌, ◌<◌, List, [], ◌∷◌, ◌++◌, Bool, true, false, get_or, length, sum, take, drop, ap, subst, sym, refl, ◌∙◌, arith, length-append, length-drop, length-take, IsErr, IsErrAnd, Option, Some, None, Result, Ok, Err, option_map}
use Rattle.std.proofs.Math.Seq.{get_or-append_seam}
use Rattle.arrow2_types.specs.declared.error.Error.{Error}
use Rattle.arrow2_types.specs.declared.error.Error.TheVariants.{OutOfMemory}
use Rattle.arrow2_model.specs.Lists.{part}
use Rattle.arrow2_offset.specs.NestedLists.{cut}
use Rattle.arrow2_offset.proofs.NestedLists.{length-cut}
use Rattle.arrow2_walks.specs.Zipped.{slot}
use Rattle.arrow2_text.specs.Growth.{GrowingSlots, LosesLastSlot, PopsSlot}
use Rattle.arrow2_text.proofs.SlotLists.{pop-cut, sum-parts}

no-items : {X : Type 0} (xs : List X) → length xs < 1 → xs ≡ []
no-items [] h = refl
no-items (x ∷ xs) h = absurd (omega (arith, h))

-- the item that was last
last-false : (front vs : List Bool) (last : ℕ) → vs ≡ front ++ false ∷ [] → last + 1 ≡ length vs → get_or vs last false ≡ false
last-false front vs last e h =
    let more = length-append front (false ∷ []) in
    let l = ap length e in
    let same : last ≡ length front = omega (arith, more, l, h) in
    ap (λ l. get_or l last false) e ∙ (ap (λ k. get_or (front ++ false ∷ []) k false) same ∙ get_or-append_seam front false [] false)

module _ {V : Type 0} (bytes_of : V → List ℕ) where
  -- where there is none
  pub no-slot : (old : GrowingSlots) → length old.valid ≡ length old.values → length old.valid < 1 → PopsSlot bytes_of (Ok None) old old
  no-slot old same h = record {
    same = same;
    same_left = same;
    some = tt;
    none = (no-items old.values (omega (arith, same, h)), no-items old.values (omega (arith, same, h)), no-items old.valid h);
    err_values = tt;
    err_valid = tt;
    err_bytes = tt;
    data_type = refl;
    capacity = refl;
    byte_capacity = refl;
    only = tt;
    succeeds = λ front e. refl;
    empty = λ e. refl;
  }

  -- where a copy of it was returned
  pub popped-slot : (old new : GrowingSlots) (o : Option V) (last : ℕ) → last + 1 ≡ length old.valid → LosesLastSlot old new
      → option_map bytes_of o ≡ slot (get_or old.values last []) (get_or old.valid last false) → PopsSlot bytes_of (Ok (Some o)) old new
  popped-slot old new o last h p is =
      let more = length-append new.values (get_or old.values (length new.values) [] ∷ []) in
      let l = ap length p.values in
      let position : last ≡ length new.values = omega (arith, more, l, p.same, h) in
      record {
        same = p.same;
        same_left = p.same_left;
        some = (
          get_or old.values (length new.values) [],
          get_or old.valid (length new.values) false,
          p.values,
          p.valid,
          p.bytes,
          is ∙ ap (λ k. slot (get_or old.values k []) (get_or old.valid k false)) position,
        );
        none = tt;
        err_values = tt;
        err_valid = tt;
        err_bytes = tt;
        data_type = p.data_type;
        capacity = p.capacity;
        byte_capacity = p.byte_capacity;
        only = tt;
        succeeds = λ front e. refl;
        empty = λ e. refl;
      }

  failed-slot : (old : GrowingSlots) (e : Error) (last : ℕ) → length old.valid ≡ length old.values → last + 1 ≡ length old.valid → e ≡ OutOfMemory
      → (get_or old.valid last false ≡ false → false ≡ true) → PopsSlot bytes_of (Err e) old old
  failed-slot old e last same h memory succeeds = record {
    same = same;
    same_left = same;
    some = tt;
    none = tt;
    err_values = refl;
    err_valid = refl;
    err_bytes = refl;
    data_type = refl;
    capacity = refl;
    byte_capacity = refl;
    only = memory;
    succeeds = λ front is. succeeds (last-false front old.valid last is h);
    empty = λ none. absurd (omega (arith, ap length none, same, h));
  }

  -- and where no copy was made
  pub not-popped : (old : GrowingSlots) (e : Error) (r : Result (Option (Option V)) Error) (last : ℕ) → IsErr r × IsErrAnd r (λ y. y ≡ e) → length old.valid ≡ length old.values → last + 1 ≡ length old.valid → e ≡ OutOfMemory
      → (get_or old.valid last false ≡ false → false ≡ true) → PopsSlot bytes_of r old old
  not-popped old e (Ok q) last is same h memory succeeds = let never = is.0 in cc
  not-popped old e (Err y) last is same h memory succeeds = subst (λ z. PopsSlot bytes_of (Err z) old old) (sym is.1) (failed-slot old e last same h memory succeeds)

last-is : {X : Type 0} (front : List X) (x d : X) (xs : List X) → xs ≡ front ++ x ∷ [] → get_or xs (length front) d ≡ x
last-is front x d xs e = ap (λ l. get_or l (length front) d) e ∙ get_or-append_seam front x [] d

-- the slots before the last one are left
pub lost-last : (xs ns : List ℕ) (vs : List Bool) (k : ℕ) (old new : GrowingSlots) → k + 1 ≡ length ns → sum ns ≡ length xs → length vs ≡ length ns
    → old.values ≡ cut xs ns → old.valid ≡ vs → old.bytes ≡ length xs
    → new.values ≡ cut (take (sum (take k ns)) xs) (take k ns) → vs ≡ new.valid ++ get_or vs k false ∷ [] → new.bytes ≡ length (take (sum (take k ns)) xs)
    → new.data_type ≡ old.data_type → new.capacity ≡ old.capacity → new.byte_capacity ≡ old.byte_capacity → LosesLastSlot old new
lost-last xs ns vs k old new last whole count values valid bytes left bits few same_type capacity byte_capacity =
    let s = sum (take k ns) in
    let n = get_or ns k 0 in
    let long = length-cut xs ns in
    let short = length-cut (take s xs) (take k ns) in
    let fewer = length-take k ns in
    let front = length-take s xs in
    let following = length-drop s xs in
    let size = length-take n (drop s xs) in
    let sums = sum-parts ns k last in
    let position : length new.values ≡ k = omega (arith, ap length left, short, fewer, last) in
    let old_values : old.values ≡ new.values ++ part xs s n ∷ [] = values ∙ (pop-cut xs ns k last whole ∙ ap (λ l. l ++ part xs s n ∷ []) (sym left)) in
    let value : get_or old.values (length new.values) [] ≡ part xs s n = last-is new.values (part xs s n) [] old.values old_values in
    let bit : get_or old.valid (length new.values) false ≡ get_or vs k false = ap (λ l. get_or l (length new.values) false) valid ∙ ap (λ j. get_or vs j false) position in
    let one = length-append new.valid (get_or vs k false ∷ []) in
    record {
      same = omega (arith, ap length values, ap length valid, long, count);
      values = old_values ∙ ap (λ x. new.values ++ x ∷ []) (sym value);
      valid = valid ∙ (bits ∙ ap (λ b. new.valid ++ b ∷ []) (sym bit));
      same_left = omega (arith, ap length bits, one, position, count, last);
      bytes = omega (arith, bytes, few, ap length value, front, following, size, sums, whole);
      data_type = same_type;
      capacity = capacity;
      byte_capacity = byte_capacity;
    }
