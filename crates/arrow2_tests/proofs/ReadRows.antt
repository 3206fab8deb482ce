-- The number of bytes that slices and cuts read.
use Rattle.std.proofs.Common.{◌≡◌, ◌+◌, ◌-◌, ◌*◌, ◌%◌, ◌≤◌, ℕ, length, refl, ap, sym, ◌∙◌, arith}
use Rattle.arrow2_model.specs.Lists.{BitmapStorage, items_of}
use Rattle.arrow2_model.specs.Touched.{touched, slice_reads, cut_reads, lg, halvings}
use Rattle.arrow2_model.proofs.Touched.{cut_reads-in_byte}
use Rattle.arrow2_walks.specs.Cuts.{Piece, piece_of}

pub middle : slice_reads 0 1600 400 799 ≡ 100
unfolding slice_reads touched
middle = refl

pub all_but_one : slice_reads 0 1600 1 1599 ≡ 1
unfolding slice_reads touched
all_but_one = refl

pub half : slice_reads 0 1600 400 800 ≡ 100
unfolding slice_reads touched
half = refl

pub all : slice_reads 0 1600 0 1600 ≡ 0
unfolding slice_reads touched
all = refl

pub none : slice_reads 0 1600 800 0 ≡ 0
unfolding slice_reads touched
none = refl

pub none_of_one : slice_reads 0 1 0 0 ≡ 1
unfolding slice_reads touched
none_of_one = refl

pub first_seven : slice_reads 3 16 0 7 ≡ 2
unfolding slice_reads touched
first_seven = refl

pub eight_from_one : slice_reads 3 16 1 8 ≡ 3
unfolding slice_reads touched
eight_from_one = refl

pub eight_from_four : slice_reads 3 16 4 8 ≡ 3
unfolding slice_reads touched
eight_from_four = refl

pub forty : touched 0 320 ≡ 40
unfolding touched
forty = refl

pub thirty_eight : touched 3 300 ≡ 38
unfolding touched
thirty_eight = refl

pub ruleset counts = (forty, thirty_eight)

pub ruleset slices = (middle, all_but_one, half, all, none, none_of_one, first_seven, eight_from_one, eight_from_four)

pub first_cut : cut_reads 0 1600 800 ≡ 200
unfolding cut_reads slice_reads touched
first_cut = refl

pub second_cut : cut_reads 0 800 400 ≡ 100
unfolding cut_reads slice_reads touched
second_cut = refl

pub third_cut : cut_reads 0 800 1 ≡ 2
unfolding cut_reads slice_reads touched
third_cut = refl

-- the greatest number of reads that the bound of three cuts of 1600 items allows
pub lg-1600 : lg 1600 ≡ 10
unfolding lg halvings
lg-1600 = refl

pub most_reads : (n k r : ℕ) → n ≡ 1600 → k ≡ 4 → 8 * r ≤ 2 * (n * lg n) + 30 * (k - 1) → r ≤ 4011
most_reads n k r size four bound = let b = rw lg-1600 at (rw size at bound) in omega (arith, b)

-- a cut of a piece that begins with a byte
pub cut_from_byte : (q : Piece) (b : BitmapStorage) (w n i r s : ℕ) → piece_of b ≡ q → w ≡ b.offset % 8 → w ≡ 0 → n ≡ length (items_of b) → s ≡ r + cut_reads q.offset (length q.items) i → s ≡ r + cut_reads 0 n i
cut_from_byte q b w n i r s e within none size is =
    let here = ap (λ (p : Piece). cut_reads p.offset (length p.items) i) e in
    let byte = cut_reads-in_byte b.offset (length (items_of b)) i in
    let first = ap (λ (o : ℕ). cut_reads o (length (items_of b)) i) (sym within ∙ none) in
    let all = ap (λ (k : ℕ). cut_reads 0 k i) size in
    omega (arith, here, byte, first, all, is)

pub ruleset cuts = (first_cut, second_cut, third_cut)
