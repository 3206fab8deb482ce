use Rattle.std.proofs.Common.{◌≡◌, ◌∙◌, ◌*◌, ◌/◌, ◌%◌, ◌<◌, ◌≤◌, inl, inr, ℕ, List, false, get_or, set, length, bit_or, ap, sym, arith}
use Rattle.std.proofs.lemmas.Bool.{cases_lt, cases_eq}
use Rattle.std.proofs.lemmas.Grind.{get_or_default_zero}
use Rattle.std.proofs.lemmas.List.{length-set, get_or-set_same, get_or-set_other, get_or_past}
use Rattle.arrow2_model.specs.Lists.{bit, bits}
use Rattle.arrow2_model.proofs.Bits.{length-bits, get_or-bits_at}
use Rattle.arrow2_packed_bits.proofs.Buffer.{above, above_kept, above_set}
use Rattle.arrow2_packed_bits.proofs.packed_bits.set_above.Goals as goal

-- the byte that is changed
changed : (bytes : List ℕ) (n x k : ℕ) → 0 < n % 8 → n ≤ 8 * length bytes → x ≡ get_or bytes (n / 8) x → k / 8 ≡ n / 8 → get_or (bits (set bytes (n / 8) (bit_or x (get_or above (n % 8) 0)))) k false ≡ bit (bit_or x (get_or above (n % 8) 0)) (k % 8)
changed bytes n x k some inside is same =
    let y : ℕ = bit_or x (get_or above (n % 8) 0) in
    let size = length-set bytes (n / 8) y in
    get_or-bits_at (set bytes (n / 8) y) k false (omega (arith, size, same)) ∙ ap (λ b. bit b (k % 8)) (ap (λ j. get_or (set bytes (n / 8) y) j 0) same ∙ get_or-set_same bytes (n / 8) y 0 (omega arith))

pub returns-then-len-ne0-clause-kept : goal.returns-then-len-ne0-clause-kept
returns-then-len-ne0-clause-kept c k where_ =
    let bytes = c.args.bytes.now.items in let n = c.args.len in let x = c.index_mut-byte.result.now in
    let y : ℕ = bit_or x (get_or above (n % 8) 0) in
    let size = length-set bytes (n / 8) y in
    let some : 0 < n % 8 = omega (arith, c.if-len-ne0.true) in
    elim (cases_lt k (8 * length bytes)) [
      | inr past ↦ get_or_past (bits (set bytes (n / 8) y)) k false (omega (arith, length-bits (set bytes (n / 8) y), size, past)) ∙ sym (get_or_past (bits bytes) k false (omega (arith, length-bits bytes, past)))
      | inl lt ↦ elim (cases_eq (k / 8) (n / 8)) [
        | inr other ↦
            get_or-bits_at (set bytes (n / 8) y) k false (omega (arith, size, lt))
            ∙ (ap (λ b. bit b (k % 8)) (get_or-set_other bytes (n / 8) (k / 8) y 0 other) ∙ sym (get_or-bits_at bytes k false lt))
        | inl same ↦
            let below : k < n = elim where_ [ inl h ↦ h | inr h ↦ absurd (omega (arith, h, same, some)) ] in
            let byte : x ≡ get_or bytes (k / 8) 0 = c.index_mut-byte.ensures.value ∙ (get_or_default_zero bytes (n / 8) x (omega (arith, c.requires.inside, some)) ∙ ap (λ j. get_or bytes j 0) (sym same)) in
            changed bytes n x k some c.requires.inside c.index_mut-byte.ensures.value same
            ∙ (above_kept x (n % 8) (k % 8) (omega arith) (omega (arith, below, same)) ∙ (ap (λ b. bit b (k % 8)) byte ∙ sym (get_or-bits_at bytes k false lt)))
      ]
    ]

pub returns-then-len-ne0-clause-written : goal.returns-then-len-ne0-clause-written
returns-then-len-ne0-clause-written c k from to =
    let bytes = c.args.bytes.now.items in let n = c.args.len in let x = c.index_mut-byte.result.now in
    let some : 0 < n % 8 = omega (arith, c.if-len-ne0.true) in
    let same : k / 8 ≡ n / 8 = omega (arith, some, from, to) in
    changed bytes n x k some c.requires.inside c.index_mut-byte.ensures.value same ∙ above_set x (n % 8) (k % 8) (omega (arith, from, same)) (omega arith)
