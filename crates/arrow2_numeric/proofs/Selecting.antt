-- What a mask selects word by word, and by the indices of the bits that are set.
use Rattle.std.proofs.Common.{◌≡◌, ℕ, zero, suc, ◌+◌, ◌-◌, ◌<◌, ◌≤◌, ◌^◌, List, [], ◌∷◌, ◌++◌, Bool, true, false, cond, length, take, drop, get_or, replicate, refl, ap, sym, subst, ◌∙◌, append_assoc, arith, add-one, Option, Some, None, unwrap_or, append-nil, length-append, take_all}
use Rattle.std.proofs.Math.Seq.{drop-append_seam, take-append_seam}
use Rattle.std.specs.List.{All, filter, flat_map, range_with_len}
use Rattle.std.proofs.lemmas.List.Elements.{All-filter}
use Rattle.std.proofs.lemmas.List.FromFn.{get_or-range_with_len, length-range_with_len}
use Rattle.arrow2_model.specs.Lists.{bit, unnum, PassesItems, rest, part}
use Rattle.arrow2_model.proofs.Bits.{get_or-unnum, length-unnum}
use Rattle.arrow2_model.proofs.Words.{length-rest}
use Rattle.arrow2_chunk.specs.Ones.{ones}
use Rattle.arrow2_walks.specs.Selections.{non_null_values, selection}
use Rattle.arrow2_walks.specs.Zipped.{slot, zipped}
use Rattle.arrow2_walks.proofs.Selections.{non_null_values-zipped}

all-true : unnum 64 (2 ^ 64 - 1) ≡ replicate 64 true
unfolding unnum
all-true = refl

module _ {X : Type 0} where
  -- of two lists one after the other
  selected-append : (xs ys : List X) (ms ns : List Bool) → length xs ≡ length ms → selection (xs ++ ys) (ms ++ ns) ≡ selection xs ms ++ selection ys ns
  selected-append [] ys [] ns e = refl
  selected-append [] ys (m ∷ ms) ns e = absurd (omega (arith, e))
  selected-append (x ∷ xs) ys [] ns e = absurd (omega (arith, e))
  selected-append (x ∷ xs) ys (true ∷ ms) ns e = ap (λ l. x ∷ l) (selected-append xs ys ms ns (omega (arith, e)))
  selected-append (x ∷ xs) ys (false ∷ ms) ns e = selected-append xs ys ms ns (omega (arith, e))

  none-selected : (xs : List X) (n : ℕ) → selection xs (replicate n false) ≡ []
  none-selected [] n = refl
  none-selected (x ∷ xs) zero = refl
  none-selected (x ∷ xs) (suc n) = none-selected xs n

  -- of values with their validity
  pub selected-zipped : (xs : List X) (vs ms : List Bool) → length vs ≡ length xs → selection (zipped xs vs) ms ≡ zipped (selection xs ms) (selection vs ms)
  selected-zipped [] [] ms e = refl
  selected-zipped [] (v ∷ vs) ms e = absurd (omega (arith, e))
  selected-zipped (x ∷ xs) [] ms e = absurd (omega (arith, e))
  selected-zipped (x ∷ xs) (v ∷ vs) [] e = refl
  selected-zipped (x ∷ xs) (v ∷ vs) (true ∷ ms) e = ap (λ l. slot x v ∷ l) (selected-zipped xs vs ms (omega (arith, e)))
  selected-zipped (x ∷ xs) (v ∷ vs) (false ∷ ms) e = selected-zipped xs vs ms (omega (arith, e))

  -- of the first n items of a mask, followed by false
  selected-masked : (xs : List X) (ms : List Bool) (n k : ℕ) → selection xs (take n ms ++ replicate k false) ≡ selection (take n xs) (take n ms)
  selected-masked [] ms zero k = refl
  selected-masked [] ms (suc n) k = refl
  selected-masked (x ∷ xs) ms zero k = none-selected (x ∷ xs) k
  selected-masked (x ∷ xs) [] (suc n) k = none-selected (x ∷ xs) k
  selected-masked (x ∷ xs) (true ∷ ms) (suc n) k = ap (λ l. x ∷ l) (selected-masked xs ms n k)
  selected-masked (x ∷ xs) (false ∷ ms) (suc n) k = selected-masked xs ms n k

  -- of a mask that is true throughout
  selected-all : (xs : List X) (n : ℕ) → length xs ≤ n → selection xs (replicate n true) ≡ xs
  selected-all [] n h = refl
  selected-all (x ∷ xs) zero h = absurd (omega (arith, h))
  selected-all (x ∷ xs) (suc n) h = ap (λ l. x ∷ l) (selected-all xs n (omega (arith, h)))

  selected-first : (xs : List X) (m : Bool) (ms : List Bool) → selection xs (m ∷ ms) ≡ cond m (take 1 xs) [] ++ selection (drop 1 xs) ms
  selected-first [] true ms = refl
  selected-first [] false ms = refl
  selected-first (x ∷ xs) true ms = refl
  selected-first (x ∷ xs) false ms = refl

  drop-next : (xs : List X) (k : ℕ) → drop (suc k) xs ≡ drop 1 (drop k xs)
  drop-next xs zero = refl
  drop-next [] (suc k) = refl
  drop-next (x ∷ xs) (suc k) = drop-next xs k

  drop-more : (xs : List X) (k : ℕ) → drop (k + 1) xs ≡ drop 1 (drop k xs)
  drop-more xs k = rw add-one (drop-next xs k)

  nothing-selected : (xs : List X) → selection xs [] ≡ []
  nothing-selected [] = refl
  nothing-selected (x ∷ xs) = refl

  cut-one : (b : Bool) (xs : List X) (k : ℕ) (ks : List ℕ) → flat_map (λ j. part xs j 1) (cond b (k ∷ ks) ks) ≡ cond b (part xs k 1) [] ++ flat_map (λ j. part xs j 1) ks
  cut-one true xs k ks = refl
  cut-one false xs k ks = refl

  cut-from : (xs : List X) (p : ℕ → Bool) (k : ℕ) (ms : List Bool) → ((i : ℕ) → i < length ms → p (k + i) ≡ get_or ms i false)
      → flat_map (λ j. part xs j 1) (filter p (range_with_len k (length ms))) ≡ selection (drop k xs) ms
  cut-from xs p k [] h = sym (nothing-selected (drop k xs))
  cut-from xs p k (m ∷ ms) h =
      let here : p k ≡ m = ap p (omega arith) ∙ h 0 (omega arith) in
      let others = cut-from xs p (k + 1) ms (λ i l. ap p (omega arith) ∙ h (suc i) (omega (arith, l))) in
      cut-one (p k) xs k (filter p (range_with_len (k + 1) (length ms)))
      ∙ (ap (λ b. cond b (part xs k 1) [] ++ flat_map (λ j. part xs j 1) (filter p (range_with_len (k + 1) (length ms)))) here
      ∙ (ap (λ l. cond m (part xs k 1) [] ++ l) (others ∙ ap (λ l. selection l ms) (drop-more xs k))
      ∙ sym (selected-first (drop k xs) m ms)))

  -- what the indices of the true items cut out
  pub cut-ones : (xs : List X) (ms : List Bool) → flat_map (λ j. part xs j 1) (ones ms) ≡ selection xs ms
  unfolding ones
  cut-ones xs ms = cut-from xs (λ i. get_or ms i false) 0 ms (λ i l. ap (λ j. get_or ms j false) (omega arith))

-- the indices of true items are below the length
pub ones-inside : (ms : List Bool) → All (λ position. position < length ms) (ones ms)
unfolding ones
ones-inside ms = All-filter (λ k. get_or ms k false) (λ position. position < length ms) (range_with_len 0 (length ms))
    (λ k d m. let n = length-range_with_len 0 (length ms) in rw (get_or-range_with_len 0 (length ms) k d (omega (arith, m, n))) (omega (arith, m, n)))

module _ {X : Type 0} where
  -- of a word all of whose bits are set
  pub selected-max : (xs : List X) (w : ℕ) → w ≡ 2 ^ 64 - 1 → length xs ≤ 64 → selection xs (unnum 64 w) ≡ xs
  selected-max xs w e h = ap (λ v. selection xs (unnum 64 v)) e ∙ (ap (selection xs) all-true ∙ selected-all xs 64 h)

  -- one item, as a part
  pub one-at : (xs : List X) (k : ℕ) (d : X) → k < length xs → part xs k 1 ≡ get_or xs k d ∷ []
  one-at [] k d h = absurd (omega (arith, h))
  one-at (x ∷ xs) zero d h = refl
  one-at (x ∷ xs) (suc k) d h = one-at xs k d (omega (arith, h))

  -- of a block and of the values after it
  pub block-selected : (xs block others : List X) (ms m ns : List Bool) → xs ≡ block ++ others → ms ≡ m ++ ns → length block ≡ length m → selection xs ms ≡ selection block m ++ selection others ns
  block-selected xs block others ms m ns is-xs is-ms size = ap (λ l. selection l ms) is-xs ∙ (ap (selection (block ++ others)) is-ms ∙ selected-append block others m ns size)

  -- of the last block
  pub last-selected : (xs : List X) (ms m last : List Bool) (n : ℕ) → take n xs ≡ xs → take n m ≡ ms → last ≡ take n m ++ replicate (64 - n) false → selection xs ms ≡ selection xs last
  last-selected xs ms m last n whole is-ms is-last = sym (ap (selection xs) is-last ∙ (selected-masked xs m n (64 - n) ∙ (ap (λ l. selection l (take n m)) whole ∙ ap (selection xs) is-ms)))

  -- of values whose items are known
  pub valid-values : (slots : List X) (valid bits : List Bool) (items : List (Option X)) → zipped slots valid ≡ items → bits ≡ valid → selection slots bits ≡ non_null_values items
  valid-values slots valid bits items whole is = ap (selection slots) is ∙ (sym (non_null_values-zipped slots valid) ∙ ap non_null_values whole)

  -- where none of them is null
  pub all-values : (slots : List X) (valid : List Bool) (items : List (Option X)) (n : ℕ) → zipped slots valid ≡ items → valid ≡ replicate n true → length slots ≤ n → slots ≡ non_null_values items
  all-values slots valid items n whole all few = sym (selected-all slots n few) ∙ valid-values slots valid (replicate n true) items whole (sym all)

  -- what a word of the mask selects comes after the others
  pub word-kept : (kept grown xs block others : List X) (ms m ns : List Bool) (all : List X) → xs ≡ block ++ others → ms ≡ m ++ ns → length block ≡ length m
      → grown ≡ kept ++ selection block m → kept ++ selection xs ms ≡ all → grown ++ selection others ns ≡ all
  word-kept kept grown xs block others ms m ns all is-xs is-ms size more done =
      ap (λ l. l ++ selection others ns) more
      ∙ (append_assoc kept (selection block m) (selection others ns)
      ∙ (ap (λ l. kept ++ l) (sym (selected-append block others m ns size))
      ∙ (ap (λ l. kept ++ selection l (m ++ ns)) (sym is-xs) ∙ (ap (λ l. kept ++ selection xs l) (sym is-ms) ∙ done))))

  -- and what the last one selects is the end
  pub last-kept : (kept grown xs block : List X) (ms m last : List Bool) (n : ℕ) (all : List X) → take n block ≡ xs → take n m ≡ ms → last ≡ take n m ++ replicate (64 - n) false
      → grown ≡ kept ++ selection block last → kept ++ selection xs ms ≡ all → grown ≡ all
  last-kept kept grown xs block ms m last n all is-xs is-ms is-last more done =
      more ∙ (ap (λ l. kept ++ selection block l) is-last
      ∙ (ap (λ l. kept ++ l) (selected-masked block m n (64 - n))
      ∙ (ap (λ l. kept ++ selection l (take n m)) is-xs ∙ (ap (λ l. kept ++ selection xs l) is-ms ∙ done))))

  -- the kept items and those that the next word selects, by number: at most all selected items
  pub word-fits : (kept xs block others : List X) (ms m ns : List Bool) (all : List X) → xs ≡ block ++ others → ms ≡ m ++ ns → length block ≡ length m
      → kept ++ selection xs ms ≡ all → length kept + length (selection block m) ≤ length all
  word-fits kept xs block others ms m ns all is-xs is-ms size done =
      let e = word-kept kept (kept ++ selection block m) xs block others ms m ns all is-xs is-ms size refl done in
      let l = length-append (kept ++ selection block m) (selection others ns) in
      let n = length-append kept (selection block m) in
      omega (arith, l, n, ap length e)

  pub last-fits : (kept xs block : List X) (ms m last : List Bool) (n : ℕ) (all : List X) → take n block ≡ xs → take n m ≡ ms → last ≡ take n m ++ replicate (64 - n) false
      → kept ++ selection xs ms ≡ all → length kept + length (selection block last) ≤ length all
  last-fits kept xs block ms m last n all is-xs is-ms is-last done =
      let e = last-kept kept (kept ++ selection block last) xs block ms m last n all is-xs is-ms is-last refl done in
      let l = length-append kept (selection block last) in
      omega (arith, l, ap length e)

-- a selection of true items is true everywhere
pub selected-true : (n : ℕ) (ms : List Bool) → selection (replicate n true) ms ≡ replicate (length (selection (replicate n true) ms)) true
selected-true zero ms = refl
selected-true (suc n) [] = refl
selected-true (suc n) (true ∷ ms) = ap (λ l. true ∷ l) (selected-true n ms)
selected-true (suc n) (false ∷ ms) = selected-true n ms

-- the indices of set bits of a word
pub positions-inside : (w : ℕ) (positions : List ℕ) → positions ≡ ones (unnum 64 w) → All (λ position. position < 64) positions
positions-inside w positions is = rw is (subst (λ n. All (λ position. position < n) (ones (unnum 64 w))) (length-unnum 64 w) (ones-inside (unnum 64 w)))

-- a bit of a word, as a part of its list
pub bit-at : (w k : ℕ) (b : Bool) → k < 64 → b ≡ bit w k → part (unnum 64 w) k 1 ≡ b ∷ []
bit-at w k b less is = let n = length-unnum 64 w in one-at (unnum 64 w) k false (omega (arith, n, less)) ∙ ap (λ v. v ∷ []) (get_or-unnum 64 w k false less ∙ sym is)

-- the next block of as many items as a word has, or more
pub block-step : (items left : List Bool) (r : Option ℕ) → PassesItems 64 (λ x. x) items r left → 64 ≤ length items → items ≡ unnum 64 (unwrap_or r 0) ++ left
block-step items left None h less = let n = length-rest 64 items (omega arith) in absurd (omega (arith, n, ap length h, less))
block-step items left (Some x) h less = h

-- of items in a word's own length
pub front-of : (w n : ℕ) (items left : List Bool) → rest 64 left ≡ rest 64 items → rest 64 items ≡ items → take (length (rest 64 left)) (unnum 64 w) ≡ rest 64 left → n ≡ length (rest 64 left)
    → (take n (unnum 64 w) ≡ items) × (n ≡ length items)
front-of w n items left same none spilled size = (ap (λ k. take k (unnum 64 w)) size ∙ (spilled ∙ (same ∙ none)), size ∙ ap length (same ∙ none))

-- of a mask whose first items are those of a word: the items for the values that are left
pub mask-left : (items word left : List Bool) (count block others : ℕ) → items ≡ word ++ left → length items ≡ count → block ≡ length word → count ≡ block + others → take others left ≡ drop block (take count items)
mask-left items word left count block others is size first cut =
    let lens = ap length is ∙ length-append word left in
    take_all others left (omega (arith, lens, size, first, cut))
    ∙ (sym (drop-append_seam word left) ∙ (ap (λ k. drop k (word ++ left)) (sym first) ∙ (ap (drop block) (sym is) ∙ ap (drop block) (sym (take_all count items (omega (arith, size)))))))

-- the items for the block of that word
pub mask-first : (items word left : List Bool) (count block : ℕ) → items ≡ word ++ left → length items ≡ count → block ≡ length word → block ≡ 64 → word ≡ take block (take count items) ++ replicate (64 - block) false
mask-first items word left count block is size first full =
    let front : take block (take count items) ≡ word = ap (take block) (take_all count items (omega (arith, size)) ∙ is) ∙ (ap (λ k. take k (word ++ left)) first ∙ take-append_seam word left) in
    let none : 64 - block ≡ 0 = omega (arith, full) in
    sym (append-nil word) ∙ (ap (λ l. l ++ []) (sym front) ∙ ap (λ k. take block (take count items) ++ replicate k false) (sym none))

-- the items for the last block, which a word masked after n bits has
pub mask-last : (items bits word : List Bool) (n count : ℕ) → take n bits ≡ items → n ≡ length items → length items ≡ count → word ≡ take n bits ++ replicate (64 - n) false → word ≡ take count (take count items) ++ replicate (64 - count) false
mask-last items bits word n count is few size masked =
    let whole : take count (take count items) ≡ items = ap (take count) (take_all count items (omega (arith, size))) ∙ take_all count items (omega (arith, size)) in
    masked ∙ (ap (λ l. l ++ replicate (64 - n) false) (is ∙ sym whole) ∙ ap (λ k. take count (take count items) ++ replicate (64 - k) false) (few ∙ size))

pub ruleset selecting = (selected-max, cut-ones)
