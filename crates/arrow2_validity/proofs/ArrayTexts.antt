-- The text of an array, item by item.
use Rattle.std.proofs.Common.{◌≡◌, ◌∙◌, ℕ, zero, suc, ◌+◌, ◌<◌, ◌≤◌, List, [], ◌∷◌, ◌++◌, length, take, get_or, Option, Some, None, refl, ap, sym, subst, arith, append_assoc, append-nil, add-one, take_all, IfSome, IsOk, Result, codes}
use Rattle.std.specs.declared.fmt.Error.{Error}
use Rattle.std.specs.declared.fmt.Formatter.{Formatter}
use Rattle.std.specs.Fmt.{◌++?◌, DisplaysOnOk, HasWritten, IsPlainFormatter, comma_space, debug_items, debug_list}
use Rattle.std.proofs.lemmas.Grind.{put_two}
use Rattle.arrow2_validity.specs.ItemTexts.{separator}

assoc : (a b c : Option (List ℕ)) → (a ++? b) ++? c ≡ a ++? (b ++? c)
assoc None b c = refl
assoc (Some a) None c = refl
assoc (Some a) (Some b) None = refl
assoc (Some a) (Some b) (Some c) = ap (λ t. Some t) (append_assoc a b c)

nothing-following : (a : Option (List ℕ)) → a ++? Some [] ≡ a
nothing-following None = refl
nothing-following (Some a) = ap (λ t. Some t) (append-nil a)

nothing-before : (a : Option (List ℕ)) → Some [] ++? a ≡ a
nothing-before None = refl
nothing-before (Some a) = refl

-- the separator before an item, where `lead` comes before the first
abbrev lead_at : List ℕ → ℕ → List ℕ
lead_at lead zero = lead
lead_at lead (suc i) = comma_space

same-lead : (i : ℕ) → lead_at comma_space i ≡ comma_space
same-lead zero = refl
same-lead (suc i) = refl

first-lead : (i : ℕ) → lead_at [] i ≡ separator i
first-lead zero = refl
first-lead (suc i) = refl

module _ {X : Type 0} (text : X → Option (List ℕ)) where
  -- one item more
  more : (lead : List ℕ) (xs : List X) (i : ℕ) (d : X) → i < length xs → debug_items text lead (take (suc i) xs) ≡ debug_items text lead (take i xs) ++? (Some (lead_at lead i) ++? text (get_or xs i d))
  more lead [] i d h = absurd (omega (arith, h))
  more lead (y ∷ ys) zero d h = ap (λ t. Some lead ++? t) (nothing-following (text y)) ∙ sym (nothing-before (Some lead ++? text y))
  more lead (y ∷ ys) (suc i) d h =
      let rest = debug_items text comma_space (take i ys) in
      let last = text (get_or ys i d) in
      ap (λ t. Some lead ++? (text y ++? t)) (more comma_space ys i d (omega (arith, h)) ∙ ap (λ l. rest ++? (Some l ++? last)) (same-lead i))
      ∙ (ap (λ t. Some lead ++? t) (sym (assoc (text y) rest (Some comma_space ++? last)))
      ∙ sym (assoc (Some lead) (text y ++? rest) (Some comma_space ++? last)))

  module _ {W : Type 0} (took : W → List ℕ → W → Type 0) where
    -- the text is written, where it is known
    abbrev pub Shows : Formatter W → Option (List ℕ) → Formatter W → Type 0
    Shows f o g = IfSome o (λ bs. HasWritten took f bs g)

    pub shows-then : (f g h : Formatter W) (o rest : Option (List ℕ)) → Shows f o g → (IsPlainFormatter g → Shows g rest h) → Shows f (o ++? rest) h
    shows-then f g h None rest x y = tt
    shows-then f g h (Some a) None x y = tt
    shows-then f g h (Some a) (Some b) x y = put_two took f g h a b (a ++ b) x (y x.plain) refl

    -- the bracket before the first item
    pub none-shown : (items : List X) (f g : Formatter W) → (IsPlainFormatter f → HasWritten took f (codes "[") g) → IsPlainFormatter f → Shows f (Some (codes "[") ++? debug_items text [] (take 0 items)) g
    none-shown items f g bracket plain = bracket plain

    -- an item after those so far
    pub item-shown : (items : List X) (i : ℕ) (d : X) (f g h k : Formatter W) → i < length items
        → Shows f (Some (codes "[") ++? debug_items text [] (take i items)) g → (IsPlainFormatter g → HasWritten took g (separator i) h)
        → (IsPlainFormatter h → Shows h (text (get_or items i d)) k) → Shows f (Some (codes "[") ++? debug_items text [] (take (i + 1) items)) k
    item-shown items i d f g h k below so_far comma item =
        let head = Some (codes "[") in
        let before = debug_items text [] (take i items) in
        let last = text (get_or items i d) in
        let one : debug_items text [] (take (i + 1) items) ≡ before ++? (Some (separator i) ++? last) =
        ap (λ n. debug_items text [] (take n items)) (add-one i) ∙ (more [] items i d below ∙ ap (λ l. before ++? (Some l ++? last)) (first-lead i)) in
        let following = shows-then f g k (head ++? before) (Some (separator i) ++? last) so_far (λ plain. shows-then g h k (Some (separator i)) last (comma plain) item) in
        subst (λ o. Shows f o k) (assoc head before (Some (separator i) ++? last) ∙ ap (λ t. head ++? t) (sym one)) following

    -- the bracket after all of them
    pub all-shown : (items : List X) (i : ℕ) (f g h : Formatter W) → length items ≤ i
        → Shows f (Some (codes "[") ++? debug_items text [] (take i items)) g → (IsPlainFormatter g → HasWritten took g (codes "]") h) → Shows f (debug_list text items) h
    all-shown items i f g h most so_far bracket =
        let head = Some (codes "[") in
        let all : take i items ≡ items = take_all i items most in
        subst (λ o. Shows f o h) (assoc head (debug_items text [] (take i items)) (Some (codes "]")) ∙ ap (λ xs. head ++? (debug_items text [] xs ++? Some (codes "]"))) all)
        (shows-then f g h (head ++? debug_items text [] (take i items)) (Some (codes "]")) so_far bracket)

    -- from a clause, and back
    pub shows-from : (o : Option (List ℕ)) (f g : Formatter W) (r : Result (Unit {0}) Error) → DisplaysOnOk took f r o g → IsOk r → IsPlainFormatter f → Shows f o g
    shows-from None f g r d ok plain = tt
    shows-from (Some a) f g r d ok plain = d plain ok

    pub displays-from : (o : Option (List ℕ)) (f g : Formatter W) (r : Result (Unit {0}) Error) → (IsOk r → IsPlainFormatter f → Shows f o g) → DisplaysOnOk took f r o g
    displays-from None f g r s = tt
    displays-from (Some a) f g r s = λ plain ok. s ok plain
