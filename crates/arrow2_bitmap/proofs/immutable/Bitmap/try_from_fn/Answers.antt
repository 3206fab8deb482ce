use Rattle.std.proofs.Common.{ℕ, ◌<◌, Bool, false, get_or, subst, ap, sym, ◌∙◌, get_or-take}
use Rattle.std.proofs.lemmas.Result.{MatchResult-weaker}
use Rattle.arrow2_model.specs.Lists.{bits}
use Rattle.arrow2_bitmap.proofs.Predicates.{stated-below}
use Rattle.arrow2_bitmap.proofs.immutable.Bitmap.try_from_fn.Goals as goal

pub returns-clause-items : goal.returns-clause-items
returns-clause-items g c =
    let n : ℕ = c.args.len in
    let items = c.from_vec.result.items in
    let packed = bits c.in_ok-bytes.bytes.items in
    let stated : (k : ℕ) → k < n → g.F.Fn.post c.args.f (k, tt) (get_or items k false) = λ k h. subst (λ (bit : Bool). g.F.Fn.post c.args.f (k, tt) bit) (sym (ap (λ l. get_or l k false) c.from_vec.ensures.items ∙ get_or-take n packed k false h)) (c.in_ok-bytes.ensures.results k h) in
    λ test states. MatchResult-weaker c.try_from.result c.try_from.ensures (λ b e. e.0 ∙ stated-below items n (λ k bit. g.F.Fn.post c.args.f (k, tt) bit) test c.from_vec.ensures.len stated states) (λ _ _. tt)
