use Rattle.std.proofs.Common.{◌∙◌, ap, replicate, true}
use Rattle.arrow2_model.specs.Lists.{items_of}
use Rattle.arrow2_array.proofs.Tables.{all_known, all_set, paired_left, paired_right}
use Rattle.arrow2_array.proofs.kleene.validity_by.Goals as goal

pub returns-in-None-None-clause-items : goal.returns-in-None-None-clause-items
returns-in-None-None-clause-items g c =
    let left = all_set _ (items_of c.args.left.now) (rw c.in-None-None.is-0 at c.bitmap.ensures.items) c.requires.left_length in
    let right = all_set _ (items_of c.args.right.now) (rw c.in-None-None.is-1 at c.bitmap-2.ensures.items) c.requires.right_length in
    c.all_valid.ensures.items ∙ (ap (λ n. replicate n true) c.len-len.ensures.items ∙ all_known g.row.KNOWN _ _ _ _ c.requires.paired.both c.requires.same_length left right)

pub returns-in_ok-ternary_bitmap-in-None-Some-clause-items : goal.returns-in_ok-ternary_bitmap-in-None-Some-clause-items
returns-in_ok-ternary_bitmap-in-None-Some-clause-items g c =
    let left = all_set _ (items_of c.args.left.now) (rw c.in-None-Some.is-0 at c.bitmap.ensures.items) c.requires.left_length in
    let right = rw c.in-None-Some.is-1 at c.bitmap-2.ensures.items in
    c.known_by.ensures.items ∙ ((rw right at c.in_ok-ternary_bitmap-in-None-Some.ensures.items)
    ∙ paired_left g.row.KNOWN g.row.PAIRED _ _ _ _ c.requires.paired.first c.requires.same_length left)

pub returns-in_ok-ternary_bitmap-in-Some-None-clause-items : goal.returns-in_ok-ternary_bitmap-in-Some-None-clause-items
returns-in_ok-ternary_bitmap-in-Some-None-clause-items g c =
    let left = rw c.in-Some-None.is-0 at c.bitmap.ensures.items in
    let right = all_set _ (items_of c.args.right.now) (rw c.in-Some-None.is-1 at c.bitmap-2.ensures.items) c.requires.right_length in
    c.known_by-in-Some-None.ensures.items ∙ ((rw left at c.in_ok-ternary_bitmap-in-Some-None.ensures.items)
    ∙ paired_right g.row.KNOWN g.row.PAIRED _ _ _ _ c.requires.paired.second c.requires.same_length right)
