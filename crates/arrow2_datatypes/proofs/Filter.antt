-- The accepted items of a list as they are kept one by one.
use Rattle.std.proofs.Common.{◌≡◌, ℕ, ◌+◌, ◌<◌, ◌≤◌, Bool, true, false, cond, List, [], ◌∷◌, ◌++◌, length, map, take, drop, get_or, refl, ap, ◌∙◌, sym, arith, add-zero, filter}
use Rattle.std.specs.List.{enumerate_from, SwappedAt}
use Rattle.std.proofs.lemmas.List.{take_more, map-append, length-take, append-nil, take-set-le, drop-set-lt, get_or-drop, drop-drop, length-set}
use Rattle.std.proofs.lemmas.List.Elements.{filter-append}
use Rattle.arrow2_datatypes.specs.Filter.{filter_indexed}

enumerate-append : {X : Type 0} (n : ℕ) (xs ys : List X) → enumerate_from n (xs ++ ys) ≡ enumerate_from n xs ++ enumerate_from (n + length xs) ys
enumerate-append n [] ys = rw add-zero refl
enumerate-append n (x ∷ xs) ys = let m : n + 1 + length xs ≡ n + length (x ∷ xs) = omega arith in ap (λ es. (n, x) ∷ es) (rw (← m) (enumerate-append (n + 1) xs ys))

one_accepted : {X : Type 0} (accepts : ℕ → X → Bool) (n : ℕ) (x : X) → map (λ (p : ℕ × X). p.1) (filter (λ p. accepts p.0 p.1) ((n, x) ∷ [])) ≡ cond (accepts n x) (x ∷ []) []
one_accepted {X} accepts n x = elim (accepts n x) as (λ b. map (λ (p : ℕ × X). p.1) (cond b ((n, x) ∷ []) []) ≡ cond b (x ∷ []) []) [ true ↦ refl | false ↦ refl ]

-- one item more is kept where it is accepted
accepted_more : {X : Type 0} (accepts : ℕ → X → Bool) (front : List X) (n : ℕ) (x : X) → length front ≡ n → filter_indexed accepts (front ++ x ∷ []) ≡ filter_indexed accepts front ++ cond (accepts n x) (x ∷ []) []
accepted_more {X} accepts front n x e =
    let test : ℕ × X → Bool = λ p. accepts p.0 p.1 in
    let second : ℕ × X → X = λ p. p.1 in
    let z : 0 + length front ≡ n = omega (arith, e) in
    ap (λ es. map second (filter test es)) (enumerate-append 0 front (x ∷ []))
    ∙ (ap (map second) (filter-append test (enumerate_from 0 front) (enumerate_from (0 + length front) (x ∷ [])))
    ∙ (map-append second (filter test (enumerate_from 0 front)) (filter test (enumerate_from (0 + length front) (x ∷ [])))
    ∙ (ap (λ k. filter_indexed accepts front ++ map second (filter test (enumerate_from k (x ∷ [])))) z
    ∙ ap (λ t. filter_indexed accepts front ++ t) (one_accepted accepts n x))))

-- the items up to the one at an index, in two
taken_more : {X : Type 0} (accepts : ℕ → X → Bool) (first : List X) (n : ℕ) (x : X) → n < length first → x ≡ get_or first n x → filter_indexed accepts (take (n + 1) first) ≡ filter_indexed accepts (take n first) ++ cond (accepts n x) (x ∷ []) []
taken_more accepts first n x h e =
    ap (filter_indexed accepts) (take_more first n x h ∙ ap (λ y. take n first ++ y ∷ []) (sym e))
    ∙ accepted_more accepts (take n first) n x (omega (arith, h, length-take n first))

-- a list is as long as before two of its items were swapped
pub length_stays : {X : Type 0} (now then : List X) (i j : ℕ) (x : X) → SwappedAt now then i j → length then ≡ length now
length_stays now then i j x swapped = ap length (swapped.3 x) ∙ (length-set _ j _ ∙ length-set now i _)

-- the items before two indices stay where their items are swapped
front_stays : {X : Type 0} (now then : List X) (i j : ℕ) (x : X) → i ≤ j → SwappedAt now then i j → take i then ≡ take i now
front_stays now then i j x h swapped = ap (take i) (swapped.3 x) ∙ (take-set-le i _ j _ h ∙ take-set-le i now i _ (omega arith))

-- and so do the items after them
pub back_stays : {X : Type 0} (now then : List X) (i j : ℕ) (x : X) → i ≤ j → SwappedAt now then i j → drop (j + 1) then ≡ drop (j + 1) now
back_stays now then i j x h swapped = ap (drop (j + 1)) (swapped.3 x) ∙ (drop-set-lt (j + 1) _ j _ (omega arith) ∙ drop-set-lt (j + 1) now i _ (omega (arith, h)))

-- lists that are one from an index on are one from the next index on
pub back_same : {X : Type 0} (first now : List X) (n : ℕ) → drop n now ≡ drop n first → drop (n + 1) now ≡ drop (n + 1) first
back_same first now n e = sym (drop-drop 1 n now) ∙ (ap (drop 1) e ∙ drop-drop 1 n first)

-- the item at an index, where the lists are one from there on
pub left_at : {X : Type 0} (first now : List X) (n : ℕ) (x : X) → drop n now ≡ drop n first → get_or now n x ≡ get_or first n x
left_at first now n x e =
    let z : n + 0 ≡ n = omega arith in
    ap (λ k. get_or now k x) (sym z) ∙ (sym (get_or-drop n now 0 x) ∙ (ap (λ t. get_or t 0 x) e ∙ (get_or-drop n first 0 x ∙ ap (λ k. get_or first k x) z)))

-- the item at an index was put after those that are kept
pub kept_more : {X : Type 0} (accepts : ℕ → X → Bool) (first now then : List X) (kept n : ℕ) (x : X) → kept ≤ n → n < length first → length now ≡ length first → drop n now ≡ drop n first → x ≡ get_or now n x → accepts n x ≡ true → SwappedAt now then kept n → take kept now ≡ filter_indexed accepts (take n first) → take (kept + 1) then ≡ filter_indexed accepts (take (n + 1) first)
kept_more accepts first now then kept n x low inside same_len same here taken swapped done =
    take_more then kept x (omega (arith, low, inside, same_len, length_stays now then kept n x swapped))
    ∙ (ap (λ y. take kept then ++ y ∷ []) (swapped.0 x ∙ sym here)
    ∙ (ap (λ t. t ++ x ∷ []) (front_stays now then kept n x low swapped ∙ done)
    ∙ (ap (λ b. filter_indexed accepts (take n first) ++ cond b (x ∷ []) []) (sym taken)
    ∙ sym (taken_more accepts first n x inside (here ∙ left_at first now n x same)))))

-- the item at an index was passed over
pub kept_same : {X : Type 0} (accepts : ℕ → X → Bool) (first now : List X) (kept n : ℕ) (x : X) → n < length first → drop n now ≡ drop n first → x ≡ get_or now n x → accepts n x ≡ false → take kept now ≡ filter_indexed accepts (take n first) → take kept now ≡ filter_indexed accepts (take (n + 1) first)
kept_same accepts first now kept n x inside same here passed done =
    done
    ∙ (sym (append-nil (filter_indexed accepts (take n first)))
    ∙ (ap (λ b. filter_indexed accepts (take n first) ++ cond b (x ∷ []) []) (sym passed)
    ∙ sym (taken_more accepts first n x inside (here ∙ left_at first now n x same))))
