-- Lines and words, cut from the front.
use Rattle.std.proofs.Common.{◌≡◌, ◌≢◌, ◌∙◌, ap, refl, ◌<◌, ℕ, suc, List, [], ◌∷◌, ◌++◌, length, get_or, false, arith, eqb, eq-eqb}
use Rattle.std.specs.List.{All, join_with_byte}
use Rattle.std.proofs.lemmas.List.Splits.{slice_split_none, slice_split_at}
use Rattle.arrow2_script.specs.Lines.{lines_of, parts_between}

-- a byte that is not another is distinguished by the test
other : (a b : ℕ) → a ≢ b → eqb a b ≡ false
other a b ne = grind (arith, ne)

-- the first element of such a list, and the others
pub parts_all : {X : Type 0} (P : X → Type 0) (x : X) (xs : List X) → All P (x ∷ xs) → P x × All P xs
parts_all P x xs all = (all 0 x (omega arith), λ k d h. all (suc k) d (omega arith))

-- bytes free of byte 10 are the first line, before a byte 10
pub lines_of-cut : (line rest : List ℕ) → All (λ b. b ≢ 10) line → lines_of (line ++ 10 ∷ rest) ≡ line ∷ lines_of rest
unfolding lines_of
lines_of-cut [] rest all = refl
lines_of-cut (b ∷ line) rest all =
    let f = parts_all (λ x. x ≢ 10) b line all in
    let test = other b 10 f.0 in
    rw (test, lines_of-cut line rest f.1) refl

-- and the only one, where it ends the script and is not empty
pub lines_of-last : (b : ℕ) (line : List ℕ) → All (λ x. x ≢ 10) (b ∷ line) → lines_of (b ∷ line) ≡ (b ∷ line) ∷ []
unfolding lines_of
lines_of-last b [] all =
    let test = other b 10 (parts_all (λ x. x ≢ 10) b [] all).0 in
    rw test refl
lines_of-last b (c ∷ line) all =
    let f = parts_all (λ x. x ≢ 10) b (c ∷ line) all in
    let test = other b 10 f.0 in
    rw (test, lines_of-last c line f.1) refl

-- each element passes the test for another byte
tests : (c : ℕ) (bytes : List ℕ) → All (λ b. b ≢ c) bytes → All (λ b. eqb b c ≡ false) bytes
tests c bytes all k d h = other (get_or bytes k d) c (all k d h)

pub parts-cut : (byte : ℕ) (part rest : List ℕ) → All (λ b. b ≢ byte) part → parts_between byte (part ++ byte ∷ rest) ≡ part ∷ parts_between byte rest
unfolding parts_between
parts-cut byte part rest all = slice_split_at (λ b. eqb b byte) part byte rest (tests byte part all) (eq-eqb byte byte refl)

pub parts-last : (byte : ℕ) (part : List ℕ) → All (λ b. b ≢ byte) part → parts_between byte part ≡ part ∷ []
unfolding parts_between
parts-last byte part all = slice_split_none (λ b. eqb b byte) part (tests byte part all)

-- parts that hold no such byte, joined by it, have these parts between
pub parts-joined : (byte : ℕ) (parts : List (List ℕ)) → 0 < length parts → All (λ part. All (λ b. b ≢ byte) part) parts → parts_between byte (join_with_byte byte parts) ≡ parts
parts-joined byte [] some all = absurd (omega arith)
parts-joined byte (part ∷ []) some all = parts-last byte part (all 0 [] (omega arith))
parts-joined byte (part ∷ other ∷ parts) some all = parts-cut byte part (join_with_byte byte (other ∷ parts)) (all 0 [] (omega arith)) ∙ ap (λ t. part ∷ t) (parts-joined byte (other ∷ parts) (omega arith) (λ k d h. all (suc k) d (omega arith)))

-- the first line, or the first part, of a list of bytes that is cut there
pub line_first : (script line rest : List ℕ) → script ≡ line ++ 10 ∷ rest → All (λ b. b ≢ 10) line → lines_of script ≡ line ∷ lines_of rest
line_first script line rest e all = ap lines_of e ∙ lines_of-cut line rest all

pub line_last : (script line : List ℕ) → script ≡ line → 0 < length script → All (λ b. b ≢ 10) line → lines_of script ≡ line ∷ lines_of []
unfolding lines_of
line_last [] line e some all = absurd (omega arith)
line_last (b ∷ bytes) line e some all = rw (← e) (lines_of-last b bytes (rw (← e) at all))

pub part_first : (byte : ℕ) (bytes part rest : List ℕ) → bytes ≡ part ++ byte ∷ rest → All (λ b. b ≢ byte) part → parts_between byte bytes ≡ part ∷ parts_between byte rest
part_first byte bytes part rest e all = ap (λ t. parts_between byte t) e ∙ parts-cut byte part rest all

pub part_last : (byte : ℕ) (bytes part : List ℕ) → bytes ≡ part → All (λ b. b ≢ byte) part → parts_between byte bytes ≡ part ∷ []
part_last byte bytes part e all = ap (λ t. parts_between byte t) e ∙ parts-last byte part all

pub ruleset cutting = (line_first, line_last, part_first, part_last)
