use Rattle.std.proofs.Common.{◌≡◌, inl, inr, ℕ, ◌+◌, ◌-◌, ◌<◌, ◌≤◌, List, true, map, refl, arith, ℤ, pos, ◌<ℤ◌, ◌≤ℤ◌, slice_index_or}
use Rattle.std.specs.Ordering.{MatchOrdering, int_cmp}
use Rattle.std.specs.declared.cmp.Ordering.{Ordering}
use Rattle.std.specs.declared.cmp.Ordering.TheVariants.{Less, Equal, Greater}
use Rattle.std.proofs.lemmas.Bool.{cases_lt}
use Rattle.std.proofs.lemmas.Cmp.{int_ranked}
use Rattle.std.proofs.lemmas.Int.{ints}
use Rattle.std.proofs.lemmas.List.{get_or-map}
use Rattle.arrow2_offset.proofs.Order.{lt_stated}
use Rattle.arrow2_ffi.proofs.inside.first_falling.Goals as goal

ranked : (a b : ℤ) (r : Ordering) → MatchOrdering r (a <ℤ b) (a ≡ b) (b <ℤ a) → (a <ℤ b → ⊥) → b ≤ℤ a
ranked a b Less m h = absurd (h m)
ranked a b Equal m h = rw m (omega (arith, ints))
ranked a b Greater m h = omega (arith, ints)

-- a number that is not below another one
not_below : (a b : ℤ) → (a <ℤ b → ⊥) → b ≤ℤ a
not_below a b h = ranked a b (int_cmp a b) (int_ranked a b (int_cmp a b) refl) h

-- one more number that does not fall
rises_next : (xs : List ℤ) (i : ℕ) → 1 ≤ i → ((k : ℕ) → k + 1 < i → slice_index_or xs k (pos 0) ≤ℤ slice_index_or xs (k + 1) (pos 0)) → slice_index_or xs (i - 1) (pos 0) ≤ℤ slice_index_or xs i (pos 0) → (k : ℕ) → k + 1 < i + 1 → slice_index_or xs k (pos 0) ≤ℤ slice_index_or xs (k + 1) (pos 0)
rises_next xs i some so_far here k h =
    elim (cases_lt (k + 1) i) [
      | inl low ↦ so_far k low
      | inr last ↦
          let is : k ≡ i - 1 = omega arith in
          let next : k + 1 ≡ i = omega arith in
          rw (next, is) here
    ]

pub loop-index-preserved : goal.loop-index-preserved
loop-index-preserved g c =
    let i = c.loop-index.index in
    let items = c.args.offsets.now in
    let v = g.O.Number.value in
    let stated = lt_stated v g.O.PartialOrd.partial_cmp _ _ c.lt.result (g.met.O.Number.order_law _ _ g.met.O.Integral.exact_law) c.lt.ensures in
    let up = not_below (v c.index-offsets-index.result) (v c.index-offsets-index-in-loop-index.result) (λ h. let e : c.lt.result ≡ true = stated.1 h in let no : ⊥ = cc in no) in
    record {
      bound = omega (arith, c.loop-index-test.true);
      before = rises_next (map v items) i c.loop-index.auto.index c.loop-index.invariant.before (rw (get_or-map v items (i - 1) c.index-offsets-index-in-loop-index.result (pos 0) (omega (arith, c.loop-index-test.true)), get_or-map v items i c.index-offsets-index.result (pos 0) c.loop-index-test.true, ← c.index-offsets-index-in-loop-index.is, ← c.index-offsets-index.is) up);
    }
