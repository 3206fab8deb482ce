use Rattle.std.proofs.Common.{◌≡◌, ◌∙◌, ◌+◌, ◌/◌, ◌%◌, ℕ, List, Bool, [], ◌∷◌, ◌++◌, false, get_or, set, take, bit_and, ap, sym, arith}
use Rattle.std.proofs.lemmas.Grind.{get_or_default_zero}
use Rattle.arrow2_model.specs.Lists.{bit, bits, IsCanonical}
use Rattle.arrow2_model.proofs.Bits.{get_or-bits_at}
use Rattle.arrow2_packed_bits.proofs.Buffer.{below, cut_last, popped}
use Rattle.arrow2_packed_bits.proofs.packed_bits.PackedBits.pop.Goals as goal

cut : (c : goal.After-is_set) → IsCanonical c.truncate.new.self.items c.in_ok-last.last × (take c.in_ok-last.last (bits c.truncate.new.self.items) ≡ take c.in_ok-last.last (bits c.self.inside.bytes.items))
cut c =
    let b = c.self.inside in
    cut_last b.bytes.items c.truncate.new.self.items b.length c.in_ok-last.last c.index-byte.result.now c.self.invariant (omega (arith, c.in_ok-last.ensures)) c.index-byte.ensures (c.truncate.ensures.items ∙ ap (λ m. take m (set b.bytes.items (c.in_ok-last.last / 8) (bit_and c.index-byte.result.now (get_or below (c.in_ok-last.last % 8) 0)))) c.bytes_for.ensures)

pub invariant_of-self : goal.invariant_of-self
invariant_of-self c = (cut c).0

pub returns-clause-last : goal.returns-clause-last
returns-clause-last c =
    let b = c.self.inside in
    let last : ℕ = c.in_ok-last.last in
    let was : b.length ≡ last + 1 = omega (arith, c.in_ok-last.ensures) in
    let byte : c.index-byte.result.now ≡ get_or b.bytes.items (last / 8) 0 = c.index-byte.ensures ∙ get_or_default_zero b.bytes.items (last / 8) c.index-byte.result.now (omega (arith, was, c.self.invariant.exact)) in
    let item : get_or (bits b.bytes.items) last false ≡ c.is_set.result = get_or-bits_at b.bytes.items last false (omega (arith, was, c.self.invariant.exact)) ∙ (ap (λ x. bit x (last % 8)) (sym byte) ∙ sym c.is_set.ensures) in
    ap (λ m. m.items) (sym c.self.view_is)
    ∙ (popped b.bytes.items b.length last c.self.invariant was
    ∙ (ap (λ v. take last (bits b.bytes.items) ++ v ∷ []) item ∙ ap (λ (t : List Bool). t ++ c.is_set.result ∷ []) (sym (cut c).1)))
