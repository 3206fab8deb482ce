-- Slots of two arrays that have the same bytes: by their lengths and all their bytes at once, and run by run of those
-- that are not null.
use Rattle.std.proofs.Common.{◌≡◌, ℕ, zero, suc, ◌+◌, ◌-◌, ◌<◌, ◌≤◌, ◌↔◌, ◌⊎◌, List, [], ◌∷◌, ◌++◌, Bool, true, false, not, cond, inl, inr, count_by, length, map, sum, take, drop, get_or, replicate, flat_map, refl, ap, sym, ◌∙◌, arith, Option, None, Some, is_some, is_none}
use Rattle.std.proofs.Math.Seq.{take-add, take-append_seam, take-length}
use Rattle.std.proofs.lemmas.List.{append_cancel_left, length-take, length-drop, take_all, ext_get_or, get_or-take, get_or-drop}
use Rattle.std.proofs.lemmas.List.Sums.{sum_by-cons}
use Rattle.arrow2_model.specs.Lists.{part, falses}
use Rattle.arrow2_offset.specs.NestedLists.{cut}
use Rattle.arrow2_offset.proofs.NestedLists.{extend-cut, part-cut}
use Rattle.arrow2_walks.specs.Runs.{runs}
use Rattle.arrow2_walks.specs.Selections.{selection, non_null_values}
use Rattle.arrow2_walks.proofs.Selections.{selected-runs, non_null_values-zipped}
use Rattle.arrow2_walks.specs.Zipped.{zipped}
use Rattle.arrow2_walks.proofs.Zipped.{nulls-zipped}
use Rattle.arrow2_model.proofs.Counts.{falses-none}

module _ {X : Type 0} where
  heads : (x y : X) (xs ys : List X) → x ∷ xs ≡ y ∷ ys → x ≡ y
  heads x y xs ys e = ap (λ l. get_or l 0 x) e

  tails : (x y : X) (xs ys : List X) → x ∷ xs ≡ y ∷ ys → xs ≡ ys
  tails x y xs ys e = ap (drop 1) e

  fronts : (xs ys us zs : List X) → length xs ≡ length ys → xs ++ us ≡ ys ++ zs → xs ≡ ys
  fronts xs ys us zs n e = sym (take-append_seam xs us) ∙ (ap (take (length xs)) e ∙ (ap (λ k. take k (ys ++ zs)) n ∙ take-append_seam ys zs))

  -- the same items are selected from both exactly where both have the same items that are not null
  zipped-alike : (xs ys : List X) (vs : List Bool) → length vs ≡ length xs → length vs ≡ length ys → selection xs vs ≡ selection ys vs → zipped xs vs ≡ zipped ys vs
  zipped-alike [] [] vs e f same = refl
  zipped-alike [] (y ∷ ys) vs e f same = absurd (omega (arith, e, f))
  zipped-alike (x ∷ xs) [] vs e f same = absurd (omega (arith, e, f))
  zipped-alike (x ∷ xs) (y ∷ ys) [] e f same = absurd (omega (arith, e))
  zipped-alike (x ∷ xs) (y ∷ ys) (true ∷ vs) e f same =
      let rest = zipped-alike xs ys vs (omega (arith, e)) (omega (arith, f)) (tails x y _ _ same) in
      ap (λ z. Some z ∷ zipped xs vs) (heads x y _ _ same) ∙ ap (λ l. Some y ∷ l) rest
  zipped-alike (x ∷ xs) (y ∷ ys) (false ∷ vs) e f same = ap (λ l. None ∷ l) (zipped-alike xs ys vs (omega (arith, e)) (omega (arith, f)) same)

  -- the same, by the runs of the validity
  pub runs-alike : (xs ys : List X) (vs : List Bool) → length vs ≡ length xs → length vs ≡ length ys
      → (flat_map (λ (r : ℕ × ℕ). part xs r.0 r.1) (runs vs) ≡ flat_map (λ (r : ℕ × ℕ). part ys r.0 r.1) (runs vs)) ↔ (zipped xs vs ≡ zipped ys vs)
  runs-alike xs ys vs e f =
      let mine = selected-runs xs vs e in
      let others = selected-runs ys vs f in (
        λ same. zipped-alike xs ys vs e f (sym mine ∙ (same ∙ others)),
        λ same. mine ∙ (sym (non_null_values-zipped xs vs) ∙ (ap non_null_values same ∙ (non_null_values-zipped ys vs ∙ sym others))),
      )

  -- the first run is the same in both: what follows decides
  pub runs-left : (f h : ℕ × ℕ → List X) (left rest : List (ℕ × ℕ)) (r : ℕ × ℕ) (A : Type 0) → left ≡ r ∷ rest → f r ≡ h r → ((flat_map f left ≡ flat_map h left) ↔ A) → (flat_map f rest ≡ flat_map h rest) ↔ A
  runs-left f h left rest r A first same decides =
      let mine : flat_map f left ≡ f r ++ flat_map f rest = ap (flat_map f) first in
      let others : flat_map h left ≡ f r ++ flat_map h rest = ap (flat_map h) first ∙ ap (λ l. l ++ flat_map h rest) (sym same) in (
        λ e. decides.0 (mine ∙ (ap (λ l. f r ++ l) e ∙ sym others)),
        λ a. append_cancel_left (f r) (flat_map f rest) (flat_map h rest) (sym mine ∙ (decides.1 a ∙ others)),
      )

  -- it is not
  pub runs-differ : (f h : ℕ × ℕ → List X) (left rest : List (ℕ × ℕ)) (r : ℕ × ℕ) (A : Type 0) → left ≡ r ∷ rest → length (f r) ≡ length (h r) → (f r ≡ h r → ⊥) → ((flat_map f left ≡ flat_map h left) ↔ A) → A → ⊥
  runs-differ f h left rest r A first count differ decides a =
      differ (fronts (f r) (h r) _ _ count (sym (ap (flat_map f) first) ∙ (decides.1 a ∙ ap (flat_map h) first)))

  lengths-cut : (xs : List X) (ns : List ℕ) → sum ns ≤ length xs → map length (cut xs ns) ≡ ns
  lengths-cut xs [] h = refl
  lengths-cut xs (n ∷ ns) h =
      let s = sum_by-cons (λ x. x) n ns in
      let few = length-take n xs in
      let left = length-drop n xs in
      let front : length (take n xs) ≡ n = omega (arith, few, s, h) in
      ap (λ k. k ∷ map length (cut (drop n xs) ns)) front ∙ ap (λ l. n ∷ l) (lengths-cut (drop n xs) ns (omega (arith, s, left, h)))

  joined-cut : (xs : List X) (ns : List ℕ) → sum ns ≤ length xs → flat_map (λ l. l) (cut xs ns) ≡ take (sum ns) xs
  joined-cut xs [] h = refl
  joined-cut xs (n ∷ ns) h =
      let s = sum_by-cons (λ x. x) n ns in
      let left = length-drop n xs in
      ap (λ l. take n xs ++ l) (joined-cut (drop n xs) ns (omega (arith, s, left, h))) ∙ (sym (take-add n (sum ns) xs) ∙ ap (λ k. take k xs) (sym s))

  whole-cut : (xs : List X) (ns : List ℕ) → cut (take (sum ns) xs) ns ≡ cut xs ns
  whole-cut xs ns =
      let all = take-length ns in
      sym (ap (cut (take (sum ns) xs)) all) ∙ extend-cut [] xs 0 (sum ns) (length ns) [] ns refl refl (omega arith)

  -- lists are cut into the same lists exactly where their lengths and all their items are the same
  cut-alike : (xs ys : List X) (ns ms : List ℕ) → sum ns ≤ length xs → sum ms ≤ length ys → (cut xs ns ≡ cut ys ms) ↔ ((ns ≡ ms) × (take (sum ns) xs ≡ take (sum ms) ys))
  cut-alike xs ys ns ms h i = (
    λ e. (sym (lengths-cut xs ns h) ∙ (ap (map length) e ∙ lengths-cut ys ms i), sym (joined-cut xs ns h) ∙ (ap (flat_map (λ l. l)) e ∙ joined-cut ys ms i)),
    λ e. sym (whole-cut xs ns) ∙ (ap (λ l. cut l ns) e.1 ∙ (ap (cut (take (sum ms) ys)) e.0 ∙ whole-cut ys ms)),
  )

  -- parts of two lists that are cut, by their lengths and all their items
  pub values-alike : (xs ys : List X) (first second : ℕ) (ns ms : List ℕ) (a n : ℕ) → length (part xs (first + sum (take a ns)) (sum (part ns a n))) ≡ sum (part ns a n) → length (part ys (second + sum (take a ms)) (sum (part ms a n))) ≡ sum (part ms a n)
      → (part (cut (drop first xs) ns) a n ≡ part (cut (drop second ys) ms) a n) ↔ ((part ns a n ≡ part ms a n) × (part xs (first + sum (take a ns)) (sum (part ns a n)) ≡ part ys (second + sum (take a ms)) (sum (part ms a n))))
  values-alike xs ys first second ns ms a n h i =
      let mine = length-take (sum (part ns a n)) (drop (first + sum (take a ns)) xs) in
      let others = length-take (sum (part ms a n)) (drop (second + sum (take a ms)) ys) in
      let alike = cut-alike (drop (first + sum (take a ns)) xs) (drop (second + sum (take a ms)) ys) (part ns a n) (part ms a n) (omega (arith, h, mine)) (omega (arith, i, others)) in (
        λ e. alike.0 (sym (part-cut xs first ns a n) ∙ (e ∙ part-cut ys second ms a n)),
        λ e. part-cut xs first ns a n ∙ (alike.1 e ∙ sym (part-cut ys second ms a n)),
      )

  -- with the same validity
  pub items-alike : (xs ys : List X) (vs ws : List Bool) (us zs : List (Option X)) → zipped xs vs ≡ us → zipped ys ws ≡ zs → vs ≡ ws → (zipped xs vs ≡ zipped ys vs) ↔ (us ≡ zs)
  items-alike xs ys vs ws us zs mine others same = (
    λ e. sym mine ∙ (e ∙ (ap (zipped ys) same ∙ others)),
    λ e. mine ∙ (e ∙ (sym others ∙ ap (zipped ys) (sym same))),
  )

  -- with equal numbers of nulls, where nothing is null in one of them
  pub whole-alike : (xs ys : List X) (vs ws : List Bool) (us zs : List (Option X)) (n : ℕ) → n ≡ length xs → n ≡ length ys → n ≡ length vs → n ≡ length ws → zipped xs vs ≡ us → zipped ys ws ≡ zs → count_by is_none us ≡ count_by is_none zs
      → (vs ≡ replicate (length vs) true) ⊎ (ws ≡ replicate (length ws) true) → (part xs 0 n ≡ part ys 0 n) ↔ (us ≡ zs)
  whole-alike xs ys vs ws us zs n e f g h mine others nulls none = (
    λ same. sym mine ∙ (ap (zipped xs) known.0 ∙ (ap (λ l. zipped l (replicate n true)) (sym (take_all n xs (omega (arith, e))) ∙ (same ∙ take_all n ys (omega (arith, f)))) ∙ (ap (zipped ys) (sym known.1) ∙ others))),
    λ same. ap (take n) (sym (values xs n e) ∙ (ap (λ l. non_null_values (zipped xs l)) (sym known.0) ∙ (ap non_null_values (mine ∙ (same ∙ sym others)) ∙ (ap (λ l. non_null_values (zipped ys l)) known.1 ∙ values ys n f)))),
  )
    where
      values : (xs : List X) (n : ℕ) → n ≡ length xs → non_null_values (zipped xs (replicate n true)) ≡ xs
      values [] n e = refl
      values (x ∷ xs) zero e = absurd (omega (arith, e))
      values (x ∷ xs) (suc n) e = ap (λ l. x ∷ l) (values xs n (omega (arith, e)))

      count : (xs : List X) (vs : List Bool) (us : List (Option X)) → n ≡ length xs → n ≡ length vs → zipped xs vs ≡ us → count_by is_none us ≡ falses vs
      count xs vs us e g is = ap (count_by is_none) (sym is) ∙ nulls-zipped xs vs (omega (arith, e, g))

      whole : (vs : List Bool) → n ≡ length vs → falses vs ≡ 0 → vs ≡ replicate n true
      whole vs g valid = falses-none vs valid ∙ ap (λ k. replicate k true) (sym g)

      no-false : (k : ℕ) → falses (replicate k true) ≡ 0
      no-false zero = refl
      no-false (suc k) = let s = sum_by-cons (λ v. cond (not v) 1 0) true (replicate k true) in let rest = no-false k in omega (arith, s, rest)

      known : (vs ≡ replicate n true) × (ws ≡ replicate n true)
      known = elim none [
        | inl is ↦
            let valid : falses vs ≡ 0 = ap falses is ∙ no-false (length vs) in
            (whole vs g valid, whole ws h (sym (count ys ws zs f h others) ∙ (sym nulls ∙ (count xs vs us e g mine ∙ valid))))
        | inr is ↦
            let valid : falses ws ≡ 0 = ap falses is ∙ no-false (length ws) in
            (whole vs g (sym (count xs vs us e g mine) ∙ (nulls ∙ (count ys ws zs f h others ∙ valid))), whole ws h valid)
      ]

  -- items with other validities differ
  pub validities-differ : (vs ws : List Bool) (us zs : List (Option X)) → vs ≡ map is_some us → ws ≡ map is_some zs → (vs ≡ ws → ⊥) → us ≡ zs → ⊥
  validities-differ vs ws us zs mine others differ same = differ (mine ∙ (ap (map is_some) same ∙ sym others))

-- numbers of parts, index by index
pub parts-alike : (ns ms : List ℕ) (start len : ℕ) → start + len ≤ length ns → start + len ≤ length ms → ((k : ℕ) → start ≤ k → k < start + len → get_or ns k 0 ≡ get_or ms k 0) → part ns start len ≡ part ms start len
parts-alike ns ms start len h i same =
    let mine = length-take len (drop start ns) in
    let others = length-take len (drop start ms) in
    let left = length-drop start ns in
    let left-others = length-drop start ms in
    ext_get_or 0 (part ns start len) (part ms start len) (omega (arith, mine, others, left, left-others, h, i)) (λ k less.
    let few : k < len = omega (arith, mine, less) in
    at ns k few ∙ (same (start + k) (omega arith) (omega (arith, few)) ∙ sym (at ms k few)))
  where
    at : (ns : List ℕ) (k : ℕ) → k < len → get_or (part ns start len) k 0 ≡ get_or ns (start + k) 0
    at ns k few = get_or-take len (drop start ns) k 0 few ∙ get_or-drop start ns k 0

-- and an index at which they differ
pub parts-differ : (ns ms : List ℕ) (start len k : ℕ) → start ≤ k → k < start + len → (get_or ns k 0 ≡ get_or ms k 0 → ⊥) → part ns start len ≡ part ms start len → ⊥
parts-differ ns ms start len k from to differ same =
    let few : k - start < len = omega (arith, from, to) in
    let back : start + (k - start) ≡ k = omega (arith, from) in
    differ (sym (at ns few back) ∙ (ap (λ l. get_or l (k - start) 0) same ∙ at ms few back))
  where
    at : (ns : List ℕ) → k - start < len → start + (k - start) ≡ k → get_or (part ns start len) (k - start) 0 ≡ get_or ns k 0
    at ns few back = get_or-take len (drop start ns) (k - start) 0 few ∙ (get_or-drop start ns (k - start) 0 ∙ ap (λ j. get_or ns j 0) back)
