-- Growth by slots is growth by items; and whether a builder's validity becomes a bitmap.
use Rattle.std.proofs.Common.{◌≡◌, ℕ, ◌+◌, ◌≤◌, List, [], ◌∷◌, ◌++◌, Bool, true, false, count_by, length, map, ap, subst, sym, refl, ◌∙◌, arith, Option, Some, None, MatchOption, IsErr, IsErrAnd, Result, Ok, Err, ◌↔◌, is_some, option_map, IsNone, is_none}
use Rattle.std.proofs.lemmas.List.{map-append}
use Rattle.arrow2_types.specs.declared.error.Error.{Error}
use Rattle.arrow2_walks.specs.Zipped.{slot, zipped}
use Rattle.arrow2_walks.proofs.Zipped.{length-zipped, append-zipped, nulls-zipped, push-zipped}
use Rattle.arrow2_model.specs.Lists.{falses, BitmapStorage}
use Rattle.arrow2_validity.proofs.Slots.{known-zipped}
use Rattle.arrow2_text.specs.Growth.{AppendsBinary, AppendsSlots, GrowingBinary, GrowingSlots, PopsBinary, PopsSlot, growing_binary}

module _ {T : Type 0} (max : ℕ) (old new : GrowingSlots) (values : List (List ℕ)) (valid : List Bool) (n : ℕ) (e : length valid ≡ length values) where
  pub appends-items : (r : Result T Error) → AppendsSlots max r old new values valid n → AppendsBinary max r (growing_binary old) (growing_binary new) (zipped values valid) n
  appends-items (Ok x) a =
      let l : length (zipped old.values old.valid) ≡ length old.valid = length-zipped old.values old.valid a.same ∙ sym a.same in
      let m : length (zipped values valid) ≡ length valid = length-zipped values valid e ∙ sym e in
      record {
        ok = ap (zipped new.values) a.ok_valid ∙ (ap (λ xs. zipped xs (old.valid ++ valid)) a.ok_values ∙ append-zipped old.values values old.valid valid a.same);
        ok_bytes = a.ok_bytes;
        err = tt;
        err_bytes = tt;
        data_type = a.data_type;
        fits = a.fits;
        overflow = rw (l, m) a.overflow;
        only = a.only;
        succeeds = rw (l, m) a.succeeds;
        capacity = a.capacity;
        byte_capacity = a.byte_capacity;
      }
  appends-items (Err x) a =
      let l : length (zipped old.values old.valid) ≡ length old.valid = length-zipped old.values old.valid a.same ∙ sym a.same in
      let m : length (zipped values valid) ≡ length valid = length-zipped values valid e ∙ sym e in
      record {
        ok = tt;
        ok_bytes = tt;
        err = ap (zipped new.values) a.err_valid ∙ ap (λ xs. zipped xs old.valid) a.err_values;
        err_bytes = a.err_bytes;
        data_type = a.data_type;
        fits = a.fits;
        overflow = rw (l, m) a.overflow;
        only = a.only;
        succeeds = rw (l, m) a.succeeds;
        capacity = a.capacity;
        byte_capacity = a.byte_capacity;
      }

-- slots without items have no validity
pub none-valid : (xs : List (List ℕ)) (vs : List Bool) → length vs ≡ length xs → zipped xs vs ≡ [] → vs ≡ []
none-valid [] [] e is = refl
none-valid [] (v ∷ vs) e is = absurd (omega (arith, e))
none-valid (x ∷ xs) vs e is = let n = length-zipped (x ∷ xs) vs e in absurd (omega (arith, ap length is, n))

-- where there is a bitmap, by how many items are null
pub bitmap-there : (made known : Option BitmapStorage) (values : List (List ℕ)) (valid vs : List Bool) → length valid ≡ length values → valid ≡ vs → made ≡ known → (IsNone known ↔ (falses vs ≡ 0)) → (IsNone made ↔ (count_by is_none (zipped values valid) ≡ 0))
bitmap-there made known values valid vs same is e none = rw (e, nulls-zipped values valid same, is) none

-- ---- taking the last one off

pub value-of : {X : Type 0} (x y : X) (v : Bool) → Some x ≡ slot y v → x ≡ y
value-of x y true e = cc
value-of x y false e = cc

module _ {V : Type 0} (bytes_of : V → List ℕ) (old new : GrowingSlots) where
  bytes-gone : (item : Option V) (value : List ℕ) (valid : Bool) → old.bytes ≡ new.bytes + length value → option_map bytes_of item ≡ slot value valid
      → MatchOption item (new.bytes ≤ old.bytes) (λ v. old.bytes ≡ new.bytes + length (bytes_of v))
  bytes-gone None value valid e is = omega (arith, e)
  bytes-gone (Some v) value valid e is = rw (value-of (bytes_of v) value valid is) e

  null-last : length old.valid ≡ length old.values → (front : List (Option (List ℕ))) → zipped old.values old.valid ≡ front ++ None ∷ [] → old.valid ≡ map is_some front ++ false ∷ []
  null-last same front e = sym (known-zipped old.values old.valid same) ∙ (ap (map is_some) e ∙ map-append is_some front (None ∷ []))

  none-zipped : (xs : List (List ℕ)) (vs : List Bool) → length vs ≡ length xs → zipped xs vs ≡ [] → xs ≡ []
  none-zipped [] vs e is = refl
  none-zipped (x ∷ xs) vs e is = let n = length-zipped (x ∷ xs) vs e in absurd (omega (arith, ap length is, n))

  pub pops-items : (r : Result (Option (Option V)) Error) → PopsSlot bytes_of r old new → PopsBinary bytes_of r (growing_binary old) (growing_binary new)
  pops-items (Ok None) p = record {
    last = ap (λ xs. zipped xs old.valid) p.none.0;
    none = ap (λ xs. zipped xs new.valid) p.none.1;
    bytes = tt;
    err = tt;
    err_bytes = tt;
    data_type = p.data_type;
    capacity = p.capacity;
    byte_capacity = p.byte_capacity;
    only = tt;
    succeeds = λ front e. refl;
    empty = λ e. refl;
  }
  pops-items (Ok (Some item)) p =
      let value = p.some.0 in
      let valid = p.some.1 in
      let items = push-zipped new.values new.valid value valid p.same_left in
      record {
        last = ap (zipped old.values) p.some.3 ∙ (ap (λ xs. zipped xs (new.valid ++ valid ∷ [])) p.some.2 ∙ (items ∙ ap (λ i. zipped new.values new.valid ++ i ∷ []) (sym p.some.5)));
        none = tt;
        bytes = bytes-gone item value valid p.some.4 p.some.5;
        err = tt;
        err_bytes = tt;
        data_type = p.data_type;
        capacity = p.capacity;
        byte_capacity = p.byte_capacity;
        only = tt;
        succeeds = λ front e. refl;
        empty = λ e. refl;
      }
  pops-items (Err x) p = record {
    last = tt;
    none = tt;
    bytes = tt;
    err = ap (zipped new.values) p.err_valid ∙ ap (λ xs. zipped xs old.valid) p.err_values;
    err_bytes = p.err_bytes;
    data_type = p.data_type;
    capacity = p.capacity;
    byte_capacity = p.byte_capacity;
    only = p.only;
    succeeds = λ front e. p.succeeds (map is_some front) (null-last p.same front e);
    empty = λ e. p.empty (none-zipped old.values old.valid p.same e);
  }

-- the same item, as a value of another type
module _ {V U : Type 0} (f : V → List ℕ) (g : U → List ℕ) (old new : GrowingBinary) where
  pub pops-as : (o : Option (Option V)) (q : Option (Option U)) → option_map (option_map g) q ≡ option_map (option_map f) o → PopsBinary f (Ok o) old new → PopsBinary g (Ok q) old new
  pops-as None None e p = record {
    last = p.last;
    none = p.none;
    bytes = p.bytes;
    err = tt;
    err_bytes = tt;
    data_type = p.data_type;
    capacity = p.capacity;
    byte_capacity = p.byte_capacity;
    only = tt;
    succeeds = λ front e. refl;
    empty = λ e. refl;
  }
  pops-as None (Some i) e p = cc
  pops-as (Some j) None e p = cc
  pops-as (Some None) (Some None) e p = record {
    last = p.last;
    none = p.none;
    bytes = p.bytes;
    err = tt;
    err_bytes = tt;
    data_type = p.data_type;
    capacity = p.capacity;
    byte_capacity = p.byte_capacity;
    only = tt;
    succeeds = λ front e. refl;
    empty = λ e. refl;
  }
  pops-as (Some None) (Some (Some u)) e p = cc
  pops-as (Some (Some v)) (Some None) e p = cc
  pops-as (Some (Some v)) (Some (Some u)) e p =
      let same : g u ≡ f v = cc in
      record {
        last = p.last ∙ ap (λ bytes. new.items ++ Some bytes ∷ []) (sym same);
        none = tt;
        bytes = rw same p.bytes;
        err = tt;
        err_bytes = tt;
        data_type = p.data_type;
        capacity = p.capacity;
        byte_capacity = p.byte_capacity;
        only = tt;
        succeeds = λ front e. refl;
        empty = λ e. refl;
      }

  -- and where it failed
  pub failed-as : (x : Error) → PopsBinary f (Err x) old new → PopsBinary g (Err x) old new
  failed-as x p = record {
    last = tt;
    none = tt;
    bytes = tt;
    err = p.err;
    err_bytes = p.err_bytes;
    data_type = p.data_type;
    capacity = p.capacity;
    byte_capacity = p.byte_capacity;
    only = p.only;
    succeeds = p.succeeds;
    empty = p.empty;
  }

  pub failed-through : (x : Error) (r : Result (Option (Option U)) Error) → IsErr r × IsErrAnd r (λ y. y ≡ x) → PopsBinary f (Err x) old new → PopsBinary g r old new
  failed-through x (Ok q) h p = let never = h.0 in cc
  failed-through x (Err y) h p = subst (λ z. PopsBinary g (Err z) old new) (sym h.1) (failed-as x p)
