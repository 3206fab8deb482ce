use Rattle.std.proofs.Common.{inl, inr, ◌≡◌, ℕ, ◌+◌, ◌<◌, ◌≤◌, ◌^◌, List, Bool, None, false, get_or, length, take, ap, subst, ◌∙◌, arith, Err, IfOk, sum_by, if◌then◌else◌, take_all}
use Rattle.std.proofs.lemmas.List.Sums.{sum_by_push}
use Rattle.arrow2_types.specs.declared.error.Error.TheVariants.{Overflow}
use Rattle.arrow2_model.specs.Lists.{buffer_items, items_of}
use Rattle.arrow2_text.specs.Binary.{binary_items}
use Rattle.arrow2_text.proofs.CollectedItems.{handed-on}
use Rattle.arrow2_walks.specs.Selections.{choice}
use Rattle.arrow2_walks.proofs.Selections.{chosen-more}
use Rattle.arrow2_compute.specs.Sizes.{item_bytes}
use Rattle.arrow2_compute.proofs.KernelLoops.{length-chosen}
use Rattle.arrow2_compute.proofs.ByteCounts.{chosen-fits, of-ok}
use Rattle.arrow2_compute.proofs.if_then_else.if_then_else_binary.Given as given
use Rattle.arrow2_compute.proofs.if_then_else.if_then_else_binary.Goals as goal
use Rattle.arrow2_compute.proofs.if_then_else.if_then_else_binary.Goals.{After-freeze}

-- what overflows is no more than all items
pub returns-in_err-push_either-clause-overflow : goal.returns-in_err-push_either-clause-overflow
returns-in_err-push_either-clause-overflow g c =
    let ms = items_of c.args.mask.now in
    let xs = binary_items c.args.lhs.now in
    let ys = binary_items c.args.rhs.now in
    let position = c.loop-position.position in
    let items = c.loop-position.items in
    let few = length-chosen position ms (take position xs) (take position ys) in
    let counted : length items.items + 1 < 2 ^ 64 = omega (arith, few, ap length c.loop-position.invariant.items, c.loop-position-test.true, c.len-position-end.ensures.items) in
    let in_mask : position < length ms = omega (arith, c.loop-position-test.true, c.len-position-end.ensures.items) in
    let more = ap (sum_by item_bytes) (chosen-more ms xs ys position in_mask (omega (arith, in_mask, c.requires.left)) (omega (arith, in_mask, c.requires.right))) in
    let push = sum_by_push item_bytes (choice (take position ms) (take position xs) (take position ys)) (if get_or ms position false then get_or xs position None else get_or ys position None) in
    let most = chosen-fits item_bytes (position + 1) ms xs ys in
    let bytes = c.loop-position.invariant.bytes ∙ ap (sum_by item_bytes) c.loop-position.invariant.items in
    let size = ap (λ left. item_bytes (if left then get_or xs position None else get_or ys position None)) c.get_bit.ensures in
    λ is.
    let past = c.in_err-push_either.ensures.overflow.0 (ap (λ e. Err e) (handed-on c.from_residual-in_err-push_either.result Overflow c.in_err-push_either.field-0.0 c.from_residual-in_err-push_either.ensures.1 is)) in
    elim past [ inl far ↦ omega (arith, far, size, more, push, most, bytes) | inr many ↦ absurd (omega (arith, many, counted)) ]

-- at the end all items are chosen
chosen-all : {X : Type 0} (ms : List Bool) (xs ys : List X) (n k : ℕ) → k ≡ length ms → length ms ≡ length xs → length ms ≡ length ys → k ≤ n → choice (take n ms) (take n xs) (take n ys) ≡ choice ms xs ys
chosen-all ms xs ys n k count left right done =
    rw (take_all n ms (omega (arith, count, done)), take_all n xs (omega (arith, count, done, left)), take_all n ys (omega (arith, count, done, right)))

-- the chosen items have as many bytes as were pushed
bytes_of_all : (g : given.Over) → (c : After-freeze g) → c.loop-position.items.bytes ≡ sum_by item_bytes (choice (items_of c.args.mask.now) (binary_items c.args.lhs.now) (binary_items c.args.rhs.now))
bytes_of_all g c =
    let all = chosen-all (items_of c.args.mask.now) (binary_items c.args.lhs.now) (binary_items c.args.rhs.now) c.loop-position.position _ c.len-position-end.ensures.items c.requires.left c.requires.right c.loop-position-test.false in
    c.loop-position.invariant.bytes ∙ ap (sum_by item_bytes) (c.loop-position.invariant.items ∙ all)

pub returns-clause-bytes : goal.returns-clause-bytes
returns-clause-bytes g c = subst (λ n. IfOk c.freeze.result (λ a. length (buffer_items a.values) ≡ n)) (bytes_of_all g c) c.freeze.ensures.bytes

pub returns-clause-fits : goal.returns-clause-fits
returns-clause-fits g c = of-ok c.freeze.result (sum_by item_bytes (choice (items_of c.args.mask.now) (binary_items c.args.lhs.now) (binary_items c.args.rhs.now)) ≤ g.O.OffsetNumber.MAX) (omega (arith, bytes_of_all g c, c.loop-position.invariant.fits))
