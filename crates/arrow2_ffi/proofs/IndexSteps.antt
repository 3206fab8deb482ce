-- Indices of set bits, written word by word.
use Rattle.std.proofs.Common.{◌≡◌, ℕ, zero, suc, ◌+◌, ◌-◌, ◌*◌, ◌^◌, ◌<◌, ◌≤◌, List, [], ◌∷◌, ◌++◌, Bool, true, false, length, map, take, drop, get_or, replicate, ap, sym, subst, ◌∙◌, refl, arith, cond}
use Rattle.std.specs.List.{All, filter, range_with_len}
use Rattle.std.proofs.lemmas.List.{append-nil, get_or-drop, length-append, length-drop, length-take-le, get_or-take, get_or-replicate, get_or_append_left, get_or-append_right}
use Rattle.std.proofs.lemmas.List.Elements.{All-filter}
use Rattle.std.proofs.lemmas.List.FromFn.{get_or-range_with_len, length-range_with_len}
use Rattle.arrow2_model.specs.Lists.{bit, bits, unnum, part}
use Rattle.arrow2_model.proofs.Bits.{get_or-unnum}
use Rattle.arrow2_model.proofs.Parts.{get_or-part}
use Rattle.arrow2_model.proofs.Cursors.{length-part_bits}
use Rattle.arrow2_chunk.specs.Ones.{ones}
use Rattle.arrow2_ffi.specs.SetIndices.{ones_from}

-- ---- the indices of set bits, by their numbers

-- those among n indices from `at` on
abbrev set_among : List Bool → ℕ → ℕ → List ℕ
set_among items at n = filter (λ k. get_or items k false) (range_with_len at n)

map_cond : (b : Bool) (f : ℕ → ℕ) (x : ℕ) (xs : List ℕ) → map f (cond b (x ∷ xs) xs) ≡ cond b (f x ∷ map f xs) (map f xs)
map_cond true f x xs = refl
map_cond false f x xs = refl

moved_filter : (p q : ℕ → Bool) (at k n : ℕ) → ((i : ℕ) → q i ≡ p (at + i)) → map (λ j. at + j) (filter q (range_with_len k n)) ≡ filter p (range_with_len (at + k) n)
moved_filter p q at k zero h = refl
moved_filter p q at k (suc n) h =
    let e : at + (k + 1) ≡ at + k + 1 = omega arith in
    let others = moved_filter p q at (k + 1) n h in
    map_cond (q k) (λ j. at + j) k (filter q (range_with_len (k + 1) n)) ∙ (rw (h k, others, e) refl)

ones_among : (items : List Bool) (at : ℕ) → ones_from items at ≡ set_among items at (length items - at)
unfolding ones
ones_among items at =
    let e : at + 0 ≡ at = omega arith in
    moved_filter (λ k. get_or items k false) (λ k. get_or (drop at items) k false) at 0 (length (drop at items)) (λ i. get_or-drop at items i false)
    ∙ (rw (length-drop at items, e) refl)

-- ---- indices in order

cond_append : (b : Bool) (x : ℕ) (xs ys : List ℕ) → cond b (x ∷ (xs ++ ys)) (xs ++ ys) ≡ cond b (x ∷ xs) xs ++ ys
cond_append true x xs ys = refl
cond_append false x xs ys = refl

-- those among m indices, and those among n after them
among_append : (p : ℕ → Bool) (a m n : ℕ) → filter p (range_with_len a (m + n)) ≡ filter p (range_with_len a m) ++ filter p (range_with_len (a + m) n)
among_append p a zero n =
    let e : a + 0 ≡ a = omega arith in
    let l : 0 + n ≡ n = omega arith in
    rw (e, l) refl
among_append p a (suc m) n =
    let l : suc m + n ≡ suc (m + n) = omega arith in
    let e : a + suc m ≡ a + 1 + m = omega arith in
    let others = among_append p (a + 1) m n in
    rw (l, e, others) (cond_append (p a) a (filter p (range_with_len (a + 1) m)) (filter p (range_with_len (a + 1 + m) n)))

-- tests that agree at n indices
same_among : (p q : ℕ → Bool) (a n : ℕ) → ((k : ℕ) → a ≤ k → k < a + n → p k ≡ q k) → filter p (range_with_len a n) ≡ filter q (range_with_len a n)
same_among p q a zero h = refl
same_among p q a (suc n) h =
    let here = h a (omega arith) (omega arith) in
    let others = same_among p q (a + 1) n (λ k l m. h k (omega arith) (omega arith)) in
    rw (here, others) refl

-- none is left where no test holds
none_among : (p : ℕ → Bool) (a n : ℕ) → ((k : ℕ) → a ≤ k → k < a + n → p k ≡ false) → filter p (range_with_len a n) ≡ []
none_among p a zero h = refl
none_among p a (suc n) h =
    let here = h a (omega arith) (omega arith) in
    let others = none_among p (a + 1) n (λ k l m. h k (omega arith) (omega arith)) in
    rw (here, others) refl

-- those after an index begin with it
record Following (p : ℕ → Bool) (a m x : ℕ) (others : List ℕ) : Type 0 where
  from : a ≤ x
  below : x < a + m
  rest : filter p (range_with_len x (a + m - x)) ≡ x ∷ others

head_is : (x y : ℕ) (xs ys : List ℕ) → x ∷ xs ≡ y ∷ ys → x ≡ y
head_is x y xs ys e = ap (λ (zs : List ℕ). get_or zs 0 0) e

tail_is : (x y : ℕ) (xs ys : List ℕ) → x ∷ xs ≡ y ∷ ys → xs ≡ ys
tail_is x y xs ys e = ap (drop 1) e

following_test : (p : ℕ → Bool) (a m x : ℕ) (front others : List ℕ) (b : Bool) → p a ≡ b
    → ((front : List ℕ) → filter p (range_with_len (a + 1) m) ≡ front ++ x ∷ others → Following p (a + 1) m x others)
    → cond b (a ∷ filter p (range_with_len (a + 1) m)) (filter p (range_with_len (a + 1) m)) ≡ front ++ x ∷ others → Following p a (suc m) x others
following_test p a m x [] others true is later e =
    let here : a ≡ x = head_is a x (filter p (range_with_len (a + 1) m)) others e in
    let n : a + suc m - x ≡ suc m = omega (arith, here) in
    record {
      from = omega (arith, here);
      below = omega (arith, here);
      rest = rw (n, ← here, is) (ap (λ (zs : List ℕ). a ∷ zs) (tail_is a x (filter p (range_with_len (a + 1) m)) others e));
    }
following_test p a m x (y ∷ front) others true is later e =
    let b = later front (tail_is a y (filter p (range_with_len (a + 1) m)) (front ++ x ∷ others) e) in
    let n : a + suc m - x ≡ a + 1 + m - x = omega arith in
    record { from = omega (arith, b.from); below = omega (arith, b.below); rest = rw n b.rest }
following_test p a m x front others false is later e =
    let b = later front e in
    let n : a + suc m - x ≡ a + 1 + m - x = omega arith in
    record { from = omega (arith, b.from); below = omega (arith, b.below); rest = rw n b.rest }

following : (p : ℕ → Bool) (a m x : ℕ) (front others : List ℕ) → filter p (range_with_len a m) ≡ front ++ x ∷ others → Following p a m x others
following p a zero x front others e =
    let l = ap length e ∙ length-append front (x ∷ others) in
    let no : ⊥ = omega (arith, l) in
    absurd no
following p a (suc m) x front others e = following_test p a m x front others (p a) refl (λ f h. following p (a + 1) m x f others h) e

-- those from an index on begin with it
pub from_index : (items : List Bool) (at x : ℕ) (front others : List ℕ) → at ≤ length items → ones_from items at ≡ front ++ x ∷ others → (at ≤ x) × (x < length items) × (ones_from items x ≡ x ∷ others)
from_index items at x front others within e =
    let b = following (λ k. get_or items k false) at (length items - at) x front others (sym (ones_among items at) ∙ e) in
    let n : at + (length items - at) - x ≡ length items - x = omega arith in
    (b.from, omega (arith, b.below), ones_among items x ∙ subst (λ m. set_among items x m ≡ x ∷ others) n b.rest)

-- no index is left at the end
pub none_from : (items : List Bool) (at : ℕ) → length items ≡ at → ones_from items at ≡ []
none_from items at e =
    let n : length items - at ≡ 0 = omega (arith, e) in
    ones_among items at ∙ ap (set_among items at) n

-- ---- indices that fit a `usize`

-- each is below the length
pub below : (items : List Bool) (at : ℕ) → at ≤ length items → length items < 2 ^ 64 → All (λ index. index < 2 ^ 64) (ones_from items at)
below items at within small = rw (ones_among items at) (All-filter (λ k. get_or items k false) (λ index. index < 2 ^ 64) (range_with_len at (length items - at))
    (λ k d m. let n = length-range_with_len at (length items - at) in rw (get_or-range_with_len at (length items - at) k d (omega (arith, m, n))) (omega (arith, m, n))))

-- those before others
pub front_below : (xs ys : List ℕ) → All (λ index. index < 2 ^ 64) (xs ++ ys) → All (λ index. index < 2 ^ 64) xs
front_below xs ys h k d m =
    let n = length-append xs ys in
    subst (λ x. x < 2 ^ 64) (get_or_append_left xs ys d k m) (h k d (omega (arith, m, n)))

-- ---- the indices in one word

module _ (bytes : List ℕ) (offset end : ℕ) (inside : offset + end ≤ 8 * length bytes) where
  -- those in a word of the bits from `base` on, and those after it
  pub word_step : (base held read word : ℕ) → base + held ≤ end → held ≤ 64
      → ((i : ℕ) → i < 64 → bit read i ≡ get_or (bits bytes) (offset + (base + i)) false)
      → unnum 64 word ≡ take held (unnum 64 read) ++ replicate (64 - held) false
      → ones_from (part (bits bytes) offset end) base ≡ map (λ k. base + k) (ones (unnum 64 word)) ++ ones_from (part (bits bytes) offset end) (base + held)
  unfolding ones unnum
  word_step base held read word within few reads masked =
      let items : List Bool = part (bits bytes) offset end in
      let low : List Bool = take held (unnum 64 read) in
      let size = length-part_bits bytes offset end inside in
      let test : ℕ → Bool = λ k. get_or items k false in
      let shown : ℕ → Bool = λ k. get_or (unnum 64 word) (k - base) false in
      let wide : length (unnum 64 read) ≡ 64 = refl in
      let short : length low ≡ held = length-take-le held (unnum 64 read) (omega (arith, wide)) in
      let all : length items - base ≡ held + (length items - (base + held)) = omega (arith, size) in
      let both : 64 ≡ held + (64 - held) = omega arith in
      let start : base + 0 ≡ base = omega arith in
      let moved : map (λ k. base + k) (ones (unnum 64 word)) ≡ filter shown (range_with_len base 64) =
      moved_filter shown (λ k. get_or (unnum 64 word) k false) base 0 64 (λ i. let e : base + i - base ≡ i = omega arith in ap (λ j. get_or (unnum 64 word) j false) (sym e))
      ∙ ap (λ a. filter shown (range_with_len a 64)) start in
      let same : filter shown (range_with_len base held) ≡ filter test (range_with_len base held) =
      same_among shown test base held (λ k l m.
      let i : ℕ = k - base in
      let e : base + i ≡ k = omega arith in
      ap (λ (bs : List Bool). get_or bs i false) masked
      ∙ (get_or_append_left low (replicate (64 - held) false) false i (omega (arith, short))
      ∙ (get_or-take held (unnum 64 read) i false (omega arith)
      ∙ (get_or-unnum 64 read i false (omega arith)
      ∙ (reads i (omega arith)
      ∙ (ap (λ j. get_or (bits bytes) (offset + j) false) e
      ∙ sym (get_or-part (bits bytes) offset end k false (omega arith)))))))) in
      let none : filter shown (range_with_len (base + held) (64 - held)) ≡ [] =
      none_among shown (base + held) (64 - held) (λ k l m.
      ap (λ (bs : List Bool). get_or bs (k - base) false) masked
      ∙ (get_or-append_right low (replicate (64 - held) false) held (k - base) false short (omega arith)
      ∙ get_or-replicate (64 - held) (k - base - held) false false (omega arith))) in
      ones_among items base
      ∙ (ap (set_among items base) all
      ∙ (among_append test base held (length items - (base + held))
      ∙ (ap (λ (ks : List ℕ). filter test (range_with_len base held) ++ ks) (sym (ones_among items (base + held)))
      ∙ ap (λ (ks : List ℕ). ks ++ ones_from items (base + held)) (sym (moved
      ∙ (ap (λ n. filter shown (range_with_len base n)) both
      ∙ (among_append shown base held (64 - held)
      ∙ (ap (λ (ks : List ℕ). filter shown (range_with_len base held) ++ ks) none
      ∙ (append-nil (filter shown (range_with_len base held)) ∙ same)))))))))
