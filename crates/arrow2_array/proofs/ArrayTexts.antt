-- The text of a boolean array, item by item.
use Rattle.std.proofs.Common.{◌≡◌, ◌∙◌, ℕ, zero, suc, ◌<◌, List, [], ◌∷◌, ◌++◌, length, take, get_or, Bool, Option, None, ap, sym, refl, arith, append_assoc, append-nil, codes, flat_map}
use Rattle.arrow2_array.specs.ArrayTexts.{item_word, comma_list}

-- the word for an item after another one
abbrev following : Option Bool → List ℕ
following item = codes ", " ++ item_word item

more-following : (items : List (Option Bool)) (i : ℕ) → i < length items → flat_map following (take (suc i) items) ≡ flat_map following (take i items) ++ following (get_or items i None)
more-following [] i h = absurd (omega (arith, h))
more-following (item ∷ items) zero h = append-nil (following item)
more-following (item ∷ items) (suc i) h = ap (λ t. following item ++ t) (more-following items i (omega (arith, h))) ∙ sym (append_assoc (following item) (flat_map following (take i items)) (following (get_or items i None)))

-- before the first item there is nothing
pub listed-none : (items : List (Option Bool)) (i : ℕ) (word : List ℕ) → i ≡ 0 → comma_list (take i items) ++ word ≡ word
unfolding comma_list
listed-none items i word e = rw e refl

-- the first item
pub listed-first : (items : List (Option Bool)) (n : ℕ) → n ≡ 1 → 0 < length items → comma_list (take n items) ≡ item_word (get_or items 0 None)
unfolding comma_list
listed-first [] n e h = absurd (omega (arith, h))
listed-first (item ∷ items) n e h = rw e (append-nil (item_word item))

-- one item more
pub listed-more : (items : List (Option Bool)) (i n : ℕ) → 0 < i → n ≡ suc i → i < length items → comma_list (take n items) ≡ comma_list (take i items) ++ (codes ", " ++ item_word (get_or items i None))
unfolding comma_list
listed-more [] i n some e h = absurd (omega (arith, h))
listed-more (item ∷ items) zero n some e h = absurd (omega (arith, some))
listed-more (item ∷ items) (suc i) n some e h = rw e (ap (λ t. item_word item ++ t) (more-following items i (omega (arith, h))) ∙ sym (append_assoc (item_word item) (flat_map following (take i items)) (following (get_or items i None))))
