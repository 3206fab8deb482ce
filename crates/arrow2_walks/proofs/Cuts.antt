-- Cuts of pieces: the facts that stay, and the potential that pays for the reads.
use Rattle.std.proofs.Common.{◌≡◌, ℕ, zero, suc, ◌+◌, ◌-◌, ◌*◌, ◌<◌, ◌≤◌, List, [], ◌∷◌, ◌++◌, length, map, take, drop, get_or, set, subst, refl, ap, sym, ◌∙◌, arith, insert}
use Rattle.std.proofs.lemmas.List.{take-append-drop, length-take-le, length-drop, append_assoc, get_or-map}
use Rattle.std.proofs.lemmas.List.Concat.{flat_map-cons}
use Rattle.std.proofs.lemmas.List.Sums.{sum_by-cons}
use Rattle.arrow2_model.specs.Lists.{BitmapStorage, items_of}
use Rattle.arrow2_model.specs.Touched.{slice_reads, cut_reads, lg, cut_budget, total_cut_budget}
use Rattle.arrow2_model.proofs.Touched.{cut_le, cut_reads-is}
use Rattle.arrow2_walks.specs.Cuts.{Piece, piece_of, piece_at, all_items, front, back, cut_at, lengths, IsWithinBudget}

-- a cut keeps the joined items
pub joined-cut : (ps : List Piece) (k i : ℕ) → all_items (cut_at ps k i) ≡ all_items ps
joined-cut [] k i = refl
joined-cut (p ∷ ps) zero i =
    let items : Piece → List _ = λ q. q.items in
    flat_map-cons items (front p i) (back p i ∷ ps) ∙ (ap (λ t. take i p.items ++ t) (flat_map-cons items (back p i) ps) ∙ (sym (append_assoc (take i p.items) (drop i p.items) (all_items ps)) ∙ (ap (λ t. t ++ all_items ps) (take-append-drop i p.items) ∙ sym (flat_map-cons items p ps))))
joined-cut (p ∷ ps) (suc k) i =
    let items : Piece → List _ = λ q. q.items in
    flat_map-cons items p (cut_at ps k i) ∙ (ap (λ t. p.items ++ t) (joined-cut ps k i) ∙ sym (flat_map-cons items p ps))

-- there is one piece more
pub length-cut : (ps : List Piece) (k i : ℕ) → k < length ps → length (cut_at ps k i) ≡ length ps + 1
length-cut [] k i h = grind arith
length-cut (p ∷ ps) zero i h = omega arith
length-cut (p ∷ ps) (suc k) i h = let r = length-cut ps k i (omega arith) in omega (arith, r)

-- a cut reads at most the difference of the bytes left to read before and after it, and less than four bytes
cut_pays : (ps : List Piece) (k i : ℕ) → k < length ps → i ≤ length (piece_at ps k).items → 8 * cut_reads (piece_at ps k).offset (length (piece_at ps k).items) i + total_cut_budget (lengths (cut_at ps k i)) ≤ total_cut_budget (lengths ps) + 30
cut_pays [] k i h g = grind arith
cut_pays (p ∷ ps) zero i h g =
    let l = length-take-le i p.items g in
    let m = length-drop i p.items in
    let one = cut_le p.offset (length p.items) i g in
    let old = sum_by-cons cut_budget (length p.items) (lengths ps) in
    let new = sum_by-cons cut_budget (length (take i p.items)) (length (drop i p.items) ∷ lengths ps) in
    let new' = sum_by-cons cut_budget (length (drop i p.items)) (lengths ps) in
    let a = ap cut_budget l in
    let b = ap cut_budget m in
    omega (arith, one, old, new, new', a, b)
cut_pays (p ∷ ps) (suc k) i h g =
    let r = cut_pays ps k i (omega arith) g in
    let old = sum_by-cons cut_budget (length p.items) (lengths ps) in
    let new = sum_by-cons cut_budget (length p.items) (lengths (cut_at ps k i)) in
    omega (arith, r, old, new)

-- pieces stay paid
pub paid-cut : (ps : List Piece) (k i r s : ℕ) → k < length ps → i ≤ length (piece_at ps k).items → s ≡ r + cut_reads (piece_at ps k).offset (length (piece_at ps k).items) i → IsWithinBudget ps r → IsWithinBudget (cut_at ps k i) s
paid-cut ps k i r s h g e paid =
    let l = length-cut ps k i h in
    let j = ap (λ t. cut_budget (length t)) (joined-cut ps k i) in
    let pays = cut_pays ps k i h g in
    let some = paid.some in
    let had = paid.paid in
    record { some = omega (arith, l); paid = omega (arith, l, j, pays, some, had, e) }

-- ---- in the form of the code

-- a bitmap of a vector, as a piece
pub piece_is : (bs : List BitmapStorage) (k : ℕ) (b : BitmapStorage) → k < length bs → b ≡ get_or bs k b → piece_at (map piece_of bs) k ≡ piece_of b
piece_is bs k b h e = get_or-map piece_of bs k b (record { items = []; bytes = []; offset = 0 }) h ∙ ap piece_of (sym e)

-- where a bitmap is put after bitmap k, bitmap k stays
pub same_before : (bs : List BitmapStorage) (k : ℕ) (w x b : BitmapStorage) → k < length bs → x ≡ get_or (insert bs (k + 1) w) k x → b ≡ get_or bs k b → x ≡ b
same_before [] k w x b h e f = grind arith
same_before (c ∷ bs) zero w x b h e f = e ∙ sym f
same_before (c ∷ bs) (suc k) w x b h e f =
    let j : suc k + 1 ≡ suc (k + 1) = omega arith in
    same_before bs k w x b (omega arith) (subst (λ (n : ℕ). x ≡ get_or (insert (c ∷ bs) n w) (suc k) x) j e) f

-- and it is the one after it, also where bitmap k is changed
pub put_following : (bs : List BitmapStorage) (k : ℕ) (w f x : BitmapStorage) → k < length bs → x ≡ get_or (set (insert bs (k + 1) w) k f) (k + 1) x → x ≡ w
put_following [] k w f x h e = grind arith
put_following (c ∷ bs) zero w f x h e = e
put_following (c ∷ bs) (suc k) w f x h e =
    let j : suc k + 1 ≡ suc (k + 1) = omega arith in
    put_following bs k w f x (omega arith) (subst (λ (n : ℕ). x ≡ get_or (set (insert (c ∷ bs) n w) (suc k) f) n x) j e)

-- a bitmap that was put after bitmap k, where both are cut
pub pieces_cut : (bs : List BitmapStorage) (k i : ℕ) (w f g : BitmapStorage) → k < length bs → piece_of f ≡ front (piece_at (map piece_of bs) k) i → piece_of g ≡ back (piece_at (map piece_of bs) k) i
    → map piece_of (set (set (insert bs (k + 1) w) k f) (k + 1) g) ≡ cut_at (map piece_of bs) k i
pieces_cut [] k i w f g h is-f is-g = grind arith
pieces_cut (b ∷ bs) zero i w f g h is-f is-g = ap (λ p. p ∷ piece_of g ∷ map piece_of bs) is-f ∙ ap (λ p. front (piece_of b) i ∷ p ∷ map piece_of bs) is-g
pieces_cut (b ∷ bs) (suc k) i w f g h is-f is-g =
    let j : suc k + 1 ≡ suc (k + 1) = omega arith in
    rw j (ap (λ ps. piece_of b ∷ ps) (pieces_cut bs k i w f g (omega arith) is-f is-g))

-- a bitmap cut in two, with a copy of it put after it: the pieces
pub cut_pieces : (bs ns : List BitmapStorage) (k i : ℕ) (b w x y f g : BitmapStorage) → k < length bs → b ≡ get_or bs k b → w ≡ b → ns ≡ insert bs (k + 1) w
    → x ≡ get_or ns k x → piece_of f ≡ front (piece_of x) i → y ≡ get_or (set ns k f) (k + 1) y → piece_of g ≡ back (piece_of y) i
    → map piece_of (set (set ns k f) (k + 1) g) ≡ cut_at (map piece_of bs) k i
cut_pieces bs ns k i b w x y f g h is-b is-w put is-x front-is is-y back-is =
    let q : piece_at (map piece_of bs) k ≡ piece_of b = piece_is bs k b h is-b in
    let same-x : x ≡ b = same_before bs k w x b h (is-x ∙ ap (λ (xs : List BitmapStorage). get_or xs k x) put) is-b in
    let same-y : y ≡ b = put_following bs k w f y h (is-y ∙ ap (λ (xs : List BitmapStorage). get_or (set xs k f) (k + 1) y) put) ∙ is-w in
    let first : piece_of f ≡ front (piece_at (map piece_of bs) k) i = front-is ∙ ap (λ (p : Piece). front p i) (ap piece_of same-x ∙ sym q) in
    let second : piece_of g ≡ back (piece_at (map piece_of bs) k) i = back-is ∙ ap (λ (p : Piece). back p i) (ap piece_of same-y ∙ sym q) in
    ap (λ (xs : List BitmapStorage). map piece_of (set (set xs k f) (k + 1) g)) put ∙ pieces_cut bs k i w f g h first second

-- and the reads of both slices
pub cut_counted : (bs ns : List BitmapStorage) (k i : ℕ) (b w x y f : BitmapStorage) (r s t : ℕ) → k < length bs → b ≡ get_or bs k b → w ≡ b → ns ≡ insert bs (k + 1) w
    → x ≡ get_or ns k x → s ≡ r + slice_reads x.offset (length (items_of x)) 0 i → y ≡ get_or (set ns k f) (k + 1) y → t ≡ s + slice_reads y.offset (length (items_of y)) i (length (items_of y) - i)
    → t ≡ r + cut_reads (piece_at (map piece_of bs) k).offset (length (piece_at (map piece_of bs) k).items) i
cut_counted bs ns k i b w x y f r s t h is-b is-w put is-x first is-y second =
    let same-x : x ≡ b = same_before bs k w x b h (is-x ∙ ap (λ (xs : List BitmapStorage). get_or xs k x) put) is-b in
    let same-y : y ≡ b = put_following bs k w f y h (is-y ∙ ap (λ (xs : List BitmapStorage). get_or (set xs k f) (k + 1) y) put) ∙ is-w in
    let a = ap (λ (c : BitmapStorage). slice_reads c.offset (length (items_of c)) 0 i) same-x in
    let d = ap (λ (c : BitmapStorage). slice_reads c.offset (length (items_of c)) i (length (items_of c) - i)) same-y in
    let u = ap (λ (p : Piece). cut_reads p.offset (length p.items) i) (piece_is bs k b h is-b) in
    let is = cut_reads-is b.offset (length (items_of b)) i in
    omega (arith, a, d, u, is, first, second)

-- the bound that callers see
pub paid_bound : (ps : List Piece) (r : ℕ) → IsWithinBudget ps r → 8 * r ≤ 2 * (length (all_items ps) * lg (length (all_items ps))) + 30 * (length ps - 1)
paid_bound ps r paid = let had = paid.paid in omega (arith, had)

pub paid_some : (ps : List Piece) (r : ℕ) → IsWithinBudget ps r → 0 < length ps
paid_some ps r paid = paid.some

pub ruleset cuts = (joined-cut, length-cut, paid-cut, paid_bound, paid_some)
