-- Lists of offsets, their starts and their lengths.
use Rattle.std.proofs.Common.{◌≡◌, ℕ, zero, suc, ◌+◌, ◌-◌, ◌<◌, ◌≤◌, List, [], ◌∷◌, ◌++◌, map, length, take, drop, get_or, sum, replicate, refl, ap, sym, ◌∙◌, arith, subst, add-one, ℤ, pos, negsuc, ◌≤ℤ◌, unsigned_abs, slice_index_or}
use Rattle.std.specs.Int.{int_gap}
use Rattle.std.proofs.lemmas.Int.{ints}
use Rattle.std.proofs.lemmas.List.{length-map, map-append, get_or-map}
use Rattle.std.proofs.lemmas.List.Sums.{sum_by-append, sum_by-cons}
use Rattle.std.proofs.Math.Seq.{take-length}
use Rattle.arrow2_model.specs.Lists.{part}
use Rattle.arrow2_model.proofs.Parts.{part-map}
use Rattle.arrow2_offset.specs.Offsets.{running_sums, offsets_list, offset_at, AreOffsets, start_of, gaps_after, lengths_of, last_of}

-- the item at the index after k
pub get_or-next : {X : Type 0} (x : X) (xs : List X) (k : ℕ) (d : X) → get_or (x ∷ xs) (k + 1) d ≡ get_or xs k d
get_or-next x xs k d = rw add-one refl

pub sum-cons : (n : ℕ) (ns : List ℕ) → sum (n ∷ ns) ≡ n + sum ns
sum-cons n ns = sum_by-cons (λ x. x) n ns

pub sum-append : (ns ms : List ℕ) → sum (ns ++ ms) ≡ sum ns + sum ms
sum-append ns ms = sum_by-append (λ x. x) ns ms

-- ---- running sums

pub length-running_sums : (start : ℕ) (ns : List ℕ) → length (running_sums start ns) ≡ length ns
unfolding running_sums
length-running_sums start [] = refl
length-running_sums start (n ∷ ns) = ap suc (length-running_sums (start + n) ns)

pub running_sums-append : (start : ℕ) (ns ms : List ℕ) → running_sums start (ns ++ ms) ≡ running_sums start ns ++ running_sums (start + sum ns) ms
unfolding running_sums
running_sums-append start [] ms = ap (λ k. running_sums k ms) (omega arith)
running_sums-append start (n ∷ ns) ms =
    let e : start + sum (n ∷ ns) ≡ (start + n) + sum ns = omega (arith, sum-cons n ns) in
    rw e (ap (λ t. (start + n) ∷ t) (running_sums-append (start + n) ns ms))

-- ---- from the lengths to the list, and back

gaps_after-sums : (start : ℕ) (ns : List ℕ) → gaps_after (pos start) (map pos (running_sums start ns)) ≡ ns
unfolding running_sums gaps_after
gaps_after-sums start [] = refl
gaps_after-sums start (n ∷ ns) =
    let e : int_gap (pos start) (pos (start + n)) ≡ n = omega arith in
    rw (e, gaps_after-sums (start + n) ns) refl

pub lengths_of-list : (start : ℕ) (ns : List ℕ) → lengths_of (map pos (offsets_list start ns)) ≡ ns
unfolding lengths_of
lengths_of-list start ns = gaps_after-sums start ns

-- the item after another that is a natural number, and not below it
stepped : (a : ℕ) (y : ℤ) → pos a ≤ℤ y → y ≡ pos (a + int_gap (pos a) y)
stepped a (pos b) h = let e : b ≡ a + (b - a) = omega (arith, ints) in ap pos e
stepped a (negsuc b) h = omega (arith, ints)

following_spelled : (a : ℕ) (xs : List ℤ) → ((k : ℕ) → k + 1 < length (pos a ∷ xs) → slice_index_or (pos a ∷ xs) k (pos 0) ≤ℤ slice_index_or (pos a ∷ xs) (k + 1) (pos 0)) → xs ≡ map pos (running_sums a (gaps_after (pos a) xs))
unfolding running_sums gaps_after
following_spelled a [] h = refl
following_spelled a (y ∷ ys) h =
    let n = int_gap (pos a) y in
    let e = stepped a y (h 0 (omega arith)) in
    let next : (k : ℕ) → k + 1 < length (y ∷ ys) → slice_index_or (y ∷ ys) k (pos 0) ≤ℤ slice_index_or (y ∷ ys) (k + 1) (pos 0) = λ k l. rw (← get_or-next (pos a) (y ∷ ys) k (pos 0), ← get_or-next (pos a) (y ∷ ys) (k + 1) (pos 0)) (h (k + 1) (omega arith)) in
    let P : ℤ → Type 0 = λ z. ((k : ℕ) → k + 1 < length (z ∷ ys) → slice_index_or (z ∷ ys) k (pos 0) ≤ℤ slice_index_or (z ∷ ys) (k + 1) (pos 0)) → ys ≡ map pos (running_sums (a + n) (gaps_after z ys)) in
    let rest : ys ≡ map pos (running_sums (a + n) (gaps_after y ys)) = (subst P (sym e) (following_spelled (a + n) ys)) next in
    let Q : ℤ → Type 0 = λ z. (z ∷ ys) ≡ pos (a + n) ∷ map pos (running_sums (a + n) (gaps_after y ys)) in
    subst Q (sym e) (ap (λ t. pos (a + n) ∷ t) rest)

natural_is : (x : ℤ) → pos 0 ≤ℤ x → x ≡ pos (unsigned_abs x)
natural_is (pos a) h = refl
natural_is (negsuc a) h = omega (arith, ints)

-- offsets are the list of their start and their lengths
pub spelled : (xs : List ℤ) → AreOffsets xs → xs ≡ map pos (offsets_list (start_of xs) (lengths_of xs))
unfolding lengths_of
spelled [] h = let no : ⊥ = omega (arith, h.some) in absurd no
spelled (x ∷ xs) h =
    let e = natural_is x (h.natural 0 (omega arith)) in
    let P : ℤ → Type 0 = λ z. ((k : ℕ) → k + 1 < length (z ∷ xs) → slice_index_or (z ∷ xs) k (pos 0) ≤ℤ slice_index_or (z ∷ xs) (k + 1) (pos 0)) → xs ≡ map pos (running_sums (unsigned_abs x) (gaps_after z xs)) in
    let rest = (subst P (sym e) (following_spelled (unsigned_abs x) xs)) h.rising in
    let Q : ℤ → Type 0 = λ z. (z ∷ xs) ≡ pos (unsigned_abs x) ∷ map pos (running_sums (unsigned_abs x) (gaps_after x xs)) in
    subst Q (sym e) (ap (λ t. pos (unsigned_abs x) ∷ t) rest)

natural_sums : (start : ℕ) (ns : List ℕ) (k : ℕ) → pos 0 ≤ℤ slice_index_or (map pos (offsets_list start ns)) k (pos 0)
unfolding running_sums
natural_sums start ns zero = omega (arith, ints)
natural_sums start [] (suc k) = omega (arith, ints)
natural_sums start (n ∷ ns) (suc k) = natural_sums (start + n) ns k

rising_sums : (start : ℕ) (ns : List ℕ) (k : ℕ) → k + 1 < length (offsets_list start ns) → slice_index_or (map pos (offsets_list start ns)) k (pos 0) ≤ℤ slice_index_or (map pos (offsets_list start ns)) (k + 1) (pos 0)
unfolding running_sums
rising_sums start [] k h = let no : ⊥ = omega arith in absurd no
rising_sums start (n ∷ ns) zero h = omega (arith, ints)
rising_sums start (n ∷ ns) (suc k) h = rw (get_or-next (pos start) (map pos (offsets_list (start + n) ns)) (suc k) (pos 0)) (let r = rising_sums (start + n) ns k (omega arith) in rw add-one at r)

-- the list of a start and lengths is offsets
pub AreOffsets-list : (start : ℕ) (ns : List ℕ) → AreOffsets (map pos (offsets_list start ns))
AreOffsets-list start ns = record {
  some = omega arith;
  natural = λ k _. natural_sums start ns k;
  rising = λ k h. let l = length-map (offsets_list start ns) pos in rising_sums start ns k (omega arith);
}

pub start_of-list : (start : ℕ) (ns : List ℕ) → start_of (map pos (offsets_list start ns)) ≡ start
start_of-list start ns = refl

-- the offsets that a list of numbers spells
pub record Spells (xs : List ℤ) (start : ℕ) (ns : List ℕ) : Type 0 where
  pub are : AreOffsets xs
  pub from : start_of xs ≡ start
  pub by : lengths_of xs ≡ ns

pub spells : (xs : List ℤ) (start : ℕ) (ns : List ℕ) → xs ≡ map pos (offsets_list start ns) → Spells xs start ns
spells xs start ns e = rw e (record { are = AreOffsets-list start ns; from = refl; by = lengths_of-list start ns })

-- ---- their number, and each of them

pub length-lengths_of : (xs : List ℤ) → AreOffsets xs → length xs ≡ length (lengths_of xs) + 1
length-lengths_of xs h =
    let e = ap length (spelled xs h) in
    let m = length-map (offsets_list (start_of xs) (lengths_of xs)) pos in
    let l = length-running_sums (start_of xs) (lengths_of xs) in
    omega arith

pub get_or-offsets_list : (start : ℕ) (ns : List ℕ) (k : ℕ) → k ≤ length ns → get_or (offsets_list start ns) k 0 ≡ offset_at start ns k
unfolding running_sums
get_or-offsets_list start ns zero h = omega arith
get_or-offsets_list start [] (suc k) h = let no : ⊥ = omega arith in absurd no
get_or-offsets_list start (n ∷ ns) (suc k) h =
    let e = get_or-offsets_list (start + n) ns k (omega arith) in
    let s : sum (n ∷ take k ns) ≡ n + sum (take k ns) = sum-cons n (take k ns) in
    e ∙ omega arith

-- offset k
pub get_or-offsets : (xs : List ℤ) (k : ℕ) → AreOffsets xs → k < length xs → get_or xs k (pos 0) ≡ pos (offset_at (start_of xs) (lengths_of xs) k)
get_or-offsets xs k h l =
    let n = length-lengths_of xs h in
    let m = length-running_sums (start_of xs) (lengths_of xs) in
    ap (λ ys. get_or ys k (pos 0)) (spelled xs h) ∙ (get_or-map pos (offsets_list (start_of xs) (lengths_of xs)) k 0 (pos 0) (omega arith) ∙ ap pos (get_or-offsets_list (start_of xs) (lengths_of xs) k (omega arith)))

-- the last offset
pub get_or-last : (xs : List ℤ) (n : ℕ) → AreOffsets xs → n ≡ length xs → get_or xs (n - 1) (pos 0) ≡ pos (last_of xs)
get_or-last xs n h e =
    let l = length-lengths_of xs h in
    let m : n - 1 ≡ length (lengths_of xs) = omega arith in
    rw m (get_or-offsets xs (length (lengths_of xs)) h (omega arith) ∙ ap (λ ns. pos (start_of xs + sum ns)) (take-length (lengths_of xs)))

-- ---- growing

-- others after the last one
append_spells : (xs ys : List ℤ) (ns : List ℕ) → AreOffsets xs → ys ≡ map pos (running_sums (last_of xs) ns) → Spells (xs ++ ys) (start_of xs) (lengths_of xs ++ ns)
append_spells xs ys ns h e =
    let s = start_of xs in
    let ls = lengths_of xs in
    spells (xs ++ ys) s (ls ++ ns) (rw e (
    let all : xs ++ map pos (running_sums (last_of xs) ns) ≡ map pos (offsets_list s ls) ++ map pos (running_sums (last_of xs) ns) = ap (λ zs. zs ++ map pos (running_sums (last_of xs) ns)) (spelled xs h) in
    all ∙ (sym (map-append pos (offsets_list s ls) (running_sums (last_of xs) ns)) ∙ ap (λ zs. map pos (s ∷ zs)) (sym (running_sums-append s ls ns)))))

-- one more length
pub push_spells : (xs : List ℤ) (y : ℤ) (n : ℕ) → AreOffsets xs → y ≡ pos (last_of xs + n) → Spells (xs ++ y ∷ []) (start_of xs) (lengths_of xs ++ n ∷ [])
unfolding running_sums
push_spells xs y n h e = append_spells xs (y ∷ []) (n ∷ []) h (ap (λ z. z ∷ []) e)

running_sums-zeros : (start n : ℕ) → running_sums start (replicate n 0) ≡ replicate n start
unfolding running_sums
running_sums-zeros start zero = refl
running_sums-zeros start (suc n) =
    let e : start + 0 ≡ start = omega arith in
    rw (e, running_sums-zeros start n) refl

pub map-replicate : {X Y : Type 0} (f : X → Y) (n : ℕ) (x : X) → map f (replicate n x) ≡ replicate n (f x)
map-replicate f zero x = refl
map-replicate f (suc n) x = ap (λ t. f x ∷ t) (map-replicate f n x)

-- the last one again and again
pub repeat_spells : (xs : List ℤ) (y : ℤ) (n : ℕ) → AreOffsets xs → y ≡ pos (last_of xs) → Spells (xs ++ replicate n y) (start_of xs) (lengths_of xs ++ replicate n 0)
repeat_spells xs y n h e =
    append_spells xs (replicate n y) (replicate n 0) h (ap (replicate n) e ∙ (sym (map-replicate pos n (last_of xs)) ∙ ap (map pos) (sym (running_sums-zeros (last_of xs) n))))

-- ---- parts

take-running_sums : (start : ℕ) (ns : List ℕ) (k : ℕ) → take k (running_sums start ns) ≡ running_sums start (take k ns)
unfolding running_sums
take-running_sums start ns zero = refl
take-running_sums start [] (suc k) = refl
take-running_sums start (n ∷ ns) (suc k) = ap (λ t. (start + n) ∷ t) (take-running_sums (start + n) ns k)

drop-offsets_list : (start : ℕ) (ns : List ℕ) (k : ℕ) → k ≤ length ns → drop k (offsets_list start ns) ≡ offsets_list (offset_at start ns k) (drop k ns)
unfolding running_sums
drop-offsets_list start ns zero h = let e : start + sum (take 0 ns) ≡ start = omega arith in rw e refl
drop-offsets_list start [] (suc k) h = let no : ⊥ = omega arith in absurd no
drop-offsets_list start (n ∷ ns) (suc k) h =
    let s : sum (n ∷ take k ns) ≡ n + sum (take k ns) = sum-cons n (take k ns) in
    let e : start + sum (n ∷ take k ns) ≡ (start + n) + sum (take k ns) = omega arith in
    rw e (drop-offsets_list (start + n) ns k (omega arith))

part-offsets_list : (start : ℕ) (ns : List ℕ) (a n : ℕ) → a ≤ length ns → part (offsets_list start ns) a (suc n) ≡ offsets_list (offset_at start ns a) (part ns a n)
part-offsets_list start ns a n h = rw (drop-offsets_list start ns a h) (ap (λ t. offset_at start ns a ∷ t) (take-running_sums (offset_at start ns a) (drop a ns) n))

-- some of the offsets: their start is one of them, and their lengths are those between them
pub part_spells : (xs : List ℤ) (a n : ℕ) → AreOffsets xs → 0 < n → a + n ≤ length xs → Spells (part xs a n) (offset_at (start_of xs) (lengths_of xs) a) (part (lengths_of xs) a (n - 1))
part_spells xs a n h some within =
    let l = length-lengths_of xs h in
    let s = start_of xs in
    let ns = lengths_of xs in
    let e : n ≡ suc (n - 1) = omega arith in
    spells (part xs a n) (offset_at s ns a) (part ns a (n - 1)) (
    ap (λ ys. part ys a n) (spelled xs h) ∙ (
    ap (λ m. part (map pos (offsets_list s ns)) a m) e ∙ (
    part-map pos (offsets_list s ns) a (suc (n - 1)) ∙ ap (map pos) (part-offsets_list s ns a (n - 1) (omega arith)))))

-- the first of the offsets
pub take_spells : (xs : List ℤ) (n : ℕ) → AreOffsets xs → 0 < n → n ≤ length xs → Spells (take n xs) (start_of xs) (take (n - 1) (lengths_of xs))
take_spells xs n h some within =
    let t = part_spells xs 0 n h some (omega arith) in
    let e : start_of xs + 0 ≡ start_of xs = omega arith in
    record { are = t.are; from = t.from ∙ e; by = t.by }
