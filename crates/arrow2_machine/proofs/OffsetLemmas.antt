-- Offsets of the program against those of the machine of lists.
use Rattle.std.proofs.Common.{◌≡◌, ◌∙◌, sym, ap, refl, subst, ◌+◌, ◌<◌, ◌≤◌, ℕ, List, [], ◌∷◌, ◌++◌, map, sum, arith, append-nil, Result, Ok, Err, OnOk, ℤ, pos, unsigned_abs, decimal}
use Rattle.std.specs.Iterator.{YieldsFirst, Yields}
use Rattle.std.specs.Iterator.Runs.{WholeRun, YieldsRun}
use Rattle.std.proofs.lemmas.List.Sums.{sum_by-append}
use Rattle.arrow2.specs.Offsets.{GrowingOffsets, GrownBy, last_of_growing, lengths_of, gaps_after}
use Rattle.arrow2.specs.Iterators.{MayYieldPast}

-- ---- lengths that an iterator over a list gave

-- calls gave the front of the list
given : (s xs t : List ℕ) → Yields (YieldsFirst (λ l. l)) s xs t → s ≡ xs ++ t
given s [] t e = e
given s (x ∷ xs) t calls = calls.1 ∙ ap (λ l. x ∷ l) (given calls.0 xs t calls.2)

-- and all of it, once they give no more
pub all_given : (s : List ℕ) (P : List ℕ → Type 0) → WholeRun (YieldsFirst (λ l. l)) s (λ p. P p.items) → P s
unfolding YieldsRun
all_given s P run =
    let p = run.0 in
    let end = p.gave.0.2 run.2 in
    let front = given p.from p.items p.gave.0.0 p.gave.0.1 in
    let items : p.items ≡ s = sym (sym run.1 ∙ front ∙ ap (λ l. p.items ++ l) end.1.0 ∙ append-nil p.items) in
    subst P items run.3

-- lengths by which an offset passes the greatest one
pub past_all : (max last : ℕ) (s : List ℕ) → MayYieldPast max last (YieldsFirst (λ l. l)) s → max < last + sum s
past_all max last s past =
    let all : s ≡ past.0 ++ past.1 = given s past.0 past.1 past.2 in
    omega (arith, past.3, ap sum all, sum_by-append (λ n. n) past.0 past.1)

-- the consequence of a fact that holds where there is a value
pub on_ok : {X E : Type 0} (r : Result X E) (P Q : Type 0) → (P → Q) → OnOk r P → OnOk r Q
on_ok (Ok x) P Q f holds = f holds
on_ok (Err e) P Q f holds = tt

pub on_ok_both : {X E : Type 0} (r : Result X E) (P Q R : Type 0) → (P → Q → R) → OnOk r P → OnOk r Q → OnOk r R
on_ok_both (Ok x) P Q R f holds also = f holds also
on_ok_both (Err e) P Q R f holds also = tt

-- the facts on lengths that were appended
pub all_grown : (old new : GrowingOffsets) (s : List ℕ) → WholeRun (YieldsFirst (λ l. l)) s (λ p. GrownBy p.items old new) → GrownBy s old new
all_grown old new s run = all_given s (λ items. GrownBy items old new) run

-- the last offset then
pub grown_last : (old new : GrowingOffsets) (s : List ℕ) → GrownBy s old new → last_of_growing new ≡ last_of_growing old + sum s
grown_last old new s grown = omega (arith, grown.0, ap sum grown.1, sum_by-append (λ n. n) old.lengths s)

-- a last offset that is not past the greatest one
pub grown_within : (max : ℕ) (old new : GrowingOffsets) (s : List ℕ) → GrownBy s old new → last_of_growing new ≤ max → last_of_growing old + sum s ≤ max
grown_within max old new s grown within = omega (arith, grown_last old new s grown, within)

-- ---- one offset

pub one_length : (x : ℤ) → lengths_of (x ∷ []) ≡ []
unfolding lengths_of gaps_after
one_length x = refl

-- ---- offsets as words

-- numbers that are natural, as words
pub naturals_said : (ns : List ℕ) → map (λ x. decimal (unsigned_abs x)) (map pos ns) ≡ map decimal ns
naturals_said [] = refl
naturals_said (n ∷ ns) = ap (λ words. decimal n ∷ words) (naturals_said ns)

plain : (xs : List ℤ) → map (λ x. x) xs ≡ xs
plain [] = refl
plain (x ∷ xs) = ap (λ ys. x ∷ ys) (plain xs)

-- offsets whose numbers are these, as words
pub offsets_said : (xs : List ℤ) (ns : List ℕ) → map (λ x. x) xs ≡ map pos ns → map (λ x. decimal (unsigned_abs x)) xs ≡ map decimal ns
offsets_said xs ns e = ap (map (λ x. decimal (unsigned_abs x))) (sym (plain xs) ∙ e) ∙ naturals_said ns
