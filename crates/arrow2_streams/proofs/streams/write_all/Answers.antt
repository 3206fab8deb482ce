use Rattle.std.proofs.Common.{ℕ, List, ◌++◌, ◌+◌, ◌∙◌, sym, ap, arith, take, drop, append_assoc, rules, Option, Some, None, take-add}
use Rattle.std.specs.Io.KnownBytes.{Appends}
use Rattle.std.proofs.lemmas.List.{take_rest}
use Rattle.arrow2_streams.proofs.streams.write_all.Goals as goal

-- two parts of a text that follow one another, written one after the other
put_on : (a b c : Option (List ℕ)) (bytes : List ℕ) (at n : ℕ) → Appends a b (take at bytes) → Appends b c (take n (drop at bytes)) → Appends a c (take (at + n) bytes)
put_on None b c bytes at n p q = tt
put_on (Some xs) None c bytes at n p q = elim p [ ]
put_on (Some xs) (Some ys) None bytes at n p q = elim q [ ]
put_on (Some xs) (Some ys) (Some zs) bytes at n p q = q ∙ (ap (λ t. t ++ take n (drop at bytes)) p ∙ (append_assoc xs (take at bytes) (take n (drop at bytes)) ∙ ap (λ t. xs ++ t) (sym (take-add at n bytes))))

pub writes-preserved : goal.writes-preserved
writes-preserved g c = record {
  within = omega (arith, c.in-Ok.ensures.bound);
  none_failed = search rules;
  put = put_on (g.W.Write.contents c.args.writer.now.inner) (g.W.Write.contents c.writes.writer.inner) (g.W.Write.contents c.write.new.self.inner) c.args.bytes.now c.writes.at c.in-Ok.count c.writes.invariant.put (rw take_rest at c.in-Ok.ensures.bytes);
}
