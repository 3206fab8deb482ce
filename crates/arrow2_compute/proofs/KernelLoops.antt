-- Loops of kernels: the items so far, and that their number is at most that of all items.
use Rattle.std.proofs.Common.{◌≡◌, ℕ, zero, suc, ◌+◌, ◌<◌, ◌≤◌, List, [], ◌∷◌, ◌++◌, Bool, length, take, get_or, ap, sym, ◌∙◌, append_assoc, arith, add-one, inl, inr, rules, ◌^◌, ◌↔◌, ◌⊎◌, Result, Ok, Err, IfErr, IsErrOf, flat_map, append-nil, length-append}
use Rattle.std.proofs.Math.Seq.{take-length}
use Rattle.arrow2_types.specs.declared.error.Error.{Error}
use Rattle.arrow2_types.specs.declared.error.Error.TheVariants.{Overflow, OutOfMemory}
use Rattle.arrow2_model.specs.Lists.{part}
use Rattle.arrow2_model.proofs.Parts.{length-part}
use Rattle.arrow2_walks.specs.Selections.{choice}

module _ {X Y : Type 0} (f : Y → List X) where
  -- the kept items and those of the next part, by number: at most all items
  pub kept-fits : (kept whole : List X) (left rest : List Y) (y : Y) → left ≡ y ∷ rest → kept ++ flat_map f left ≡ whole → length kept + length (f y) ≤ length whole
  kept-fits kept whole left rest y first done =
      let l = length-append kept (flat_map f left) in
      let m = length-append (f y) (flat_map f rest) in
      let n = ap (λ ys. length (flat_map f ys)) first in
      omega (arith, l, m, n, ap length done)

  flat_map-next : (ys : List Y) (k : ℕ) (d : Y) → k < length ys → flat_map f (take (suc k) ys) ≡ flat_map f (take k ys) ++ f (get_or ys k d)
  flat_map-next [] k d h = absurd (omega (arith, h))
  flat_map-next (y ∷ ys) zero d h = append-nil (f y)
  flat_map-next (y ∷ ys) (suc k) d h = ap (λ l. f y ++ l) (flat_map-next ys k d (omega (arith, h))) ∙ sym (append_assoc (f y) (flat_map f (take k ys)) (f (get_or ys k d)))

  -- the items of one part more
  pub flat_map-more : (ys : List Y) (k : ℕ) (d : Y) → k < length ys → flat_map f (take (k + 1) ys) ≡ flat_map f (take k ys) ++ f (get_or ys k d)
  flat_map-more ys k d h = rw add-one (flat_map-next ys k d h)

  -- the items of the first parts, by number: at most those of all parts
  length-first : (ys : List Y) (k : ℕ) → length (flat_map f (take k ys)) ≤ length (flat_map f ys)
  length-first [] zero = omega arith
  length-first [] (suc k) = omega arith
  length-first (y ∷ ys) zero = omega arith
  length-first (y ∷ ys) (suc k) = let l = length-append (f y) (flat_map f (take k ys)) in let m = length-append (f y) (flat_map f ys) in let n = length-first ys k in omega (arith, l, m, n)

  -- the joined items and those of the next part, by number: at most all items
  pub joined-fits : (first joined : List X) (ys : List Y) (k : ℕ) (d : Y) → k < length ys → joined ≡ first ++ flat_map f (take k ys) → length joined + length (f (get_or ys k d)) ≤ length (first ++ flat_map f ys)
  joined-fits first joined ys k d h is =
      let more = ap length (flat_map-more ys k d h) in
      let l = length-append (flat_map f (take k ys)) (f (get_or ys k d)) in
      let m = length-append first (flat_map f (take k ys)) in
      let n = length-append first (flat_map f ys) in
      let few = length-first ys (k + 1) in
      omega (arith, more, l, m, n, few, ap length is)

-- no more items are chosen than the mask has
pub length-chosen : {X : Type 0} (k : ℕ) (ms : List Bool) (xs ys : List X) → length (choice (take k ms) xs ys) ≤ k
length-chosen zero ms xs ys = omega arith
length-chosen (suc k) [] xs ys = omega arith
length-chosen (suc k) (m ∷ ms) [] ys = omega arith
length-chosen (suc k) (m ∷ ms) (x ∷ xs) [] = omega arith
length-chosen (suc k) (m ∷ ms) (x ∷ xs) (y ∷ ys) = let n = length-chosen k ms xs ys in omega (arith, n)

-- all items are a part
pub part-whole : {X : Type 0} (xs : List X) (n : ℕ) → n ≡ length xs → part xs 0 n ≡ xs
part-whole xs n e = ap (λ k. take k xs) e ∙ take-length xs

pub ruleset joining = (part-whole, length-part)

-- growth that cannot overflow fails only where memory runs out
pub only-memory : {V : Type 0} (r : Result V Error) (n : ℕ) → (IsErrOf r Overflow ↔ (2 ^ 64 ≤ n)) → IfErr r (λ e. (e ≡ Overflow) ⊎ (e ≡ OutOfMemory)) → n < 2 ^ 64 → IfErr r (λ e. e ≡ OutOfMemory)
only-memory (Ok v) n over only less = tt
only-memory {V = V} (Err e) n over only less = by-error only
  where
    by-error : (e ≡ Overflow) ⊎ (e ≡ OutOfMemory) → e ≡ OutOfMemory
    by-error (inl h) = let said : IsErrOf {T = V} (Err e) Overflow = search (rules, h) in let never = over.0 said in absurd (omega (arith, never, less))
    by-error (inr h) = h
