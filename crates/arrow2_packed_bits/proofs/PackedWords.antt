-- Items as bytes, 64 at a time.
use Rattle.std.proofs.Common.{◌≡◌, ◌∙◌, ℕ, zero, suc, ◌+◌, ◌-◌, ◌*◌, ◌/◌, ◌^◌, ◌<◌, ◌≤◌, Option, Some, List, [], ◌∷◌, ◌++◌, Bool, true, false, map, take, drop, length, get_or, not, refl, ap, sym, subst, arith, eqb}
use Rattle.std.specs.Int.{from_bool}
use Rattle.std.specs.Iterator.{Yields, YieldsThen}
use Rattle.std.specs.Simd.{first_chunks}
use Rattle.std.proofs.lemmas.List.{take-append-drop, append_assoc, drop-drop, take-take, length-append, length-drop, length-take-le, take_all, take_more}
use Rattle.std.proofs.Math.Seq.{take-append-add}
use Rattle.arrow2_model.specs.Lists.{bits, num, unnum}
use Rattle.arrow2_model.proofs.Bits.{bits-append, length-bits}
use Rattle.arrow2_model.proofs.Bytes.{take-bits}
use Rattle.arrow2_model.proofs.Numbers.{unnum-num}

-- whether a lane is not 0 is its item
pub flags : (items : List Bool) → map (λ x. not (eqb x 0)) (map from_bool items) ≡ items
flags [] = refl
flags (true ∷ items) = ap (λ l. true ∷ l) (flags items)
flags (false ∷ items) = ap (λ l. false ∷ l) (flags items)

-- block i of the first k blocks
pub block_at : (k : ℕ) (items : List Bool) (i : ℕ) (d : List Bool) → i < k → get_or (first_chunks 64 k items) i d ≡ take 64 (drop (64 * i) items)
block_at zero items i d h = absurd (omega (arith, h))
block_at (suc k) items zero d h = refl
block_at (suc k) items (suc i) d h =
    let e : 64 + 64 * i ≡ 64 * suc i = omega arith in
    block_at k (drop 64 items) i d (omega (arith, h)) ∙ ap (take 64) (drop-drop (64 * i) 64 items ∙ ap (λ m. drop m items) e)

-- one block more
pub packed_on : (items block : List Bool) (bytes after word : List ℕ) (i x : ℕ) → 64 * i + 64 ≤ length items → bits bytes ++ drop (64 * i) items ≡ items → block ≡ take 64 (drop (64 * i) items) → x ≡ num block → after ≡ bytes ++ word → bits word ≡ unnum 64 x → bits after ++ drop (64 * (i + 1)) items ≡ items
packed_on items block bytes after word i x spare so is number was bits-of =
    let wide : length block ≡ 64 = ap length is ∙ length-take-le 64 (drop (64 * i) items) (omega (arith, spare, length-drop (64 * i) items)) in
    let w : bits word ≡ take 64 (drop (64 * i) items) = bits-of ∙ (ap (unnum 64) number ∙ (subst (λ (n : ℕ). unnum n (num block) ≡ block) wide (unnum-num block) ∙ is)) in
    let left : drop (64 * (i + 1)) items ≡ drop 64 (drop (64 * i) items) = (let e : 64 * (i + 1) ≡ 64 * i + 64 = omega arith in ap (λ m. drop m items) e ∙ sym (drop-drop 64 (64 * i) items)) in
    rw (was, bits-append bytes word, w, left) (append_assoc (bits bytes) (take 64 (drop (64 * i) items)) (drop 64 (drop (64 * i) items)) ∙ (ap (λ r. bits bytes ++ r) (take-append-drop 64 (drop (64 * i) items)) ∙ so))

-- all blocks are packed, and the items after them with others after these
pub packed_all : (items padded rest : List Bool) (bytes after word : List ℕ) (x : ℕ) → bits bytes ++ rest ≡ items → take (length rest) padded ≡ rest → length padded ≡ 64 → length rest ≤ 64 → x ≡ num padded → after ≡ bytes ++ word → bits word ≡ unnum 64 x → (length items ≤ 8 * length after) × (take (length items) (bits after) ≡ items)
packed_all items padded rest bytes after word x so front wide few number was bits-of =
    let w : bits word ≡ padded = bits-of ∙ (ap (unnum 64) number ∙ subst (λ (n : ℕ). unnum n (num padded) ≡ padded) wide (unnum-num padded)) in
    let e : bits after ≡ bits bytes ++ padded = rw (was, bits-append bytes word, w) refl in
    let n = length-append (bits bytes) rest in
    let m = length-append (bits bytes) padded in
    let l = length-bits after in (
      omega (arith, n, m, l, ap length so, ap length e, wide, few),
      ap (take (length items)) e ∙ (ap (λ k. take k (bits bytes ++ padded)) (ap length (sym so) ∙ n) ∙ (take-append-add (bits bytes) padded (length rest) ∙ (ap (λ r. bits bytes ++ r) front ∙ so))),
    )

-- the items of the word of a block
pub word_items : (block : List Bool) (x : ℕ) → length block ≡ 64 → x ≡ num block → unnum 64 x ≡ block
word_items block x wide number = ap (unnum 64) number ∙ subst (λ (n : ℕ). unnum n (num block) ≡ block) wide (unnum-num block)

-- as many items of the word as it was made of
pub front_items : (rest padded : List Bool) (x : ℕ) → take (length rest) padded ≡ rest → length padded ≡ 64 → x ≡ num padded → take (length rest) (unnum 64 x) ≡ rest
front_items rest padded x front wide number = ap (take (length rest)) (word_items padded x wide number) ∙ front

-- a block comes before the items after it
pub block_first : (items block : List Bool) (i : ℕ) → block ≡ take 64 (drop (64 * i) items) → drop (64 * i) items ≡ block ++ drop (64 * (i + 1)) items
block_first items block i is =
    let next : 64 * (i + 1) ≡ 64 * i + 64 = omega arith in
    sym (take-append-drop 64 (drop (64 * i) items)) ∙ (ap (λ (t : List Bool). t ++ drop 64 (drop (64 * i) items)) (sym is) ∙ ap (λ (t : List Bool). block ++ t) (drop-drop 64 (64 * i) items ∙ ap (λ m. drop m items) (sym next)))

-- how long a block is
pub length-block_of : (items block : List Bool) (i : ℕ) → block ≡ take 64 (drop (64 * i) items) → 64 * i + 64 ≤ length items → length block ≡ 64
length-block_of items block i is inside = ap length is ∙ length-take-le 64 (drop (64 * i) items) (omega (arith, inside, length-drop (64 * i) items))

-- the word of a block holds it
pub block_word : (block : List Bool) (word : List ℕ) (x : ℕ) → length block ≡ 64 → x ≡ num block → bits word ≡ unnum 64 x → bits word ≡ block
block_word block word x wide number bits-of = bits-of ∙ word_items block x wide number

-- bytes followed by a whole block
pub block_following : (bytes after word : List ℕ) (block : List Bool) (x : ℕ) → length block ≡ 64 → x ≡ num block → bits word ≡ unnum 64 x → after ≡ bytes ++ word → bits after ≡ bits bytes ++ block
block_following bytes after word block x wide number bits-of was = rw (was, bits-append bytes word, block_word block word x wide number bits-of) refl

-- bytes followed by the first bytes of a block, exactly those that hold it
pub front_following : (bytes after word : List ℕ) (block : List Bool) (count k len x : ℕ) → count < 64 → k ≡ (count + 7) / 8 → len ≡ length bytes → length block ≡ 64 → x ≡ num block → bits word ≡ unnum 64 x → after ≡ bytes ++ take k word → take (8 * len + count) (bits after) ≡ bits bytes ++ take count block
front_following bytes after word block count k len x few enough size wide number bits-of was =
    let held = block_word block word x wide number bits-of in
    let long : length word ≡ 8 = omega (arith, length-bits word, ap length held, wide) in
    let front : bits (take k word) ≡ take (8 * k) block = sym (take-bits word k (omega (arith, long))) ∙ ap (take (8 * k)) held in
    let e : bits after ≡ bits bytes ++ take (8 * k) block = rw (was, bits-append bytes (take k word), front) refl in
    let n : 8 * len + count ≡ length (bits bytes) + count = omega (arith, size, length-bits bytes) in
    ap (take (8 * len + count)) e ∙ (ap (λ m. take m (bits bytes ++ take (8 * k) block)) n ∙ (take-append-add (bits bytes) (take (8 * k) block) count ∙ ap (λ r. bits bytes ++ r) (take-take count (8 * k) block (omega arith))))

module _ {S A : Type 0} (steps : S → Option A → S → Type 0) where
  -- the items that came, and those that came after them
  pub Yields-append : (s t u : S) (xs ys : List A) → Yields steps s xs t → Yields steps t ys u → Yields steps s (xs ++ ys) u
  Yields-append s t u [] ys e y = subst (λ k. Yields steps k ys u) (sym e) y
  Yields-append s t u (x ∷ xs) ys p y = (p.0, p.1, Yields-append p.0 t u xs ys p.2 y)

  -- the last of the items that came
  pub last_came : (s u : S) (xs : List A) (x : A) → Yields steps s (xs ++ x ∷ []) u → YieldsThen steps s xs (Some x) u
  last_came s u [] x y = (s, refl, subst (steps s (Some x)) y.2 y.1)
  last_came s u (z ∷ xs) x y = let rest = last_came y.0 u xs x y.2 in (rest.0, (y.0, y.1, rest.1), rest.2)

-- a full block, after items that leave capacity for no other, is one item too many
pub too_many : {S : Type 0} (steps : S → Option Bool → S → Type 0) (s t u : S) (xs block : List Bool) → Yields steps s xs t → Yields steps t block u → length block ≡ 64 → length xs ≡ 2 ^ 64 - 64
    → (ys : List Bool) × (y : Bool) × (v : S) × YieldsThen steps s ys (Some y) v × (length ys ≡ 2 ^ 64 - 1)
too_many steps s t u xs block before came wide size =
    let last : Bool = get_or block 63 false in
    let split : block ≡ take 63 block ++ last ∷ [] = sym (take_all 64 block (omega (arith, wide))) ∙ take_more block 63 false (omega (arith, wide)) in
    let whole : xs ++ block ≡ (xs ++ take 63 block) ++ last ∷ [] = ap (λ (r : List Bool). xs ++ r) split ∙ sym (append_assoc xs (take 63 block) (last ∷ [])) in
    let all = subst (λ (r : List Bool). Yields steps s r u) whole (Yields-append steps s t u xs block before came) in
    (xs ++ take 63 block, last, u, last_came steps s u (xs ++ take 63 block) last all, omega (arith, length-append xs (take 63 block), length-take-le 63 block (omega (arith, wide)), size))
