-- The chunk that the iterator lends next is returned in an `Option`, and the iterator follows it.
use mathlib.Core.Path.{◌≡◌, refl, ap, sym, subst, ◌∙◌}
use Prim.Native.Nat.{ℕ, zero, suc, ◌<◌}
use native.Mathlib.Omega.{arith}
use mir.Syntax.{Args, Fn, named, a_type}
use mir.MapTy.{inst_fn}
use mir.Val.{Val, of_list}
use base.Logic.{id⊢}
use base.Fml.{GName, ftrue, flft, fres}
use lib.Dec as D
use lib.Dec.{lit<, eqb→eq}
use contract.Monad.{fact}
use contract.Running.{tables}
use denote.Param.{layouts}
use types.Kit.{‵, ◌⊛◌, raw, given, some, later, at_ret, ◌$◌, ◌∵◌, !, qed, done, move, drop, use0, use1, use2, split, split3, join, fjoin, await, pick, learn, rewrite, suffices, frame}
use types.Part.{whole, sub, agg}
use types.Match.{live}
use types.Run.{enter, addr, bin, of_opd, lit, stop, fld, hop, from, and_then, no_more, first, branches, skips, exec, returns, returns_within}
use types.ByLocal.{alloc_all, pass_all, free_all, look_at, look_in_at, get, get_in, through, sets, lands_as, env}
use denote.Builtin.{u8}
use denote.Exit.{no}
use denote.RattleType.{RattleType}
use denote.Ref.{MutBor, mut_vals, mut_Tells}
use denote.Signature.{plain, mut_ref_to, named_lft}
use denote.Slice.{MutSlice, Room, slice_val, mut_slice_vals}
use denote.FollowSlice.{slice_given_up}
use denote.Laws.{shows}
use denote.Steps.{nothing, heard, peeks, only}
use denote.Follow.{follows, follows_by}
use denote.Array.{Array}
use denote.Triple.Call.{calls_at}
use denote.Triple.Clauses.{lasts}
use denote.Triple.Spec.{triple_of}
use denote.Triple.Table.{framed}
use denote.Triple.Walked.{Stays, stay_dropped, walk_of, ends_at, says, Goes-spent_ref}
use contract.Lifetimes.{Lfts}
use Rattle.std.proofs.raw_atomic.Walks.{proved}
use Rattle.std.proofs.VecSteps.Shapes.{after}
use Rattle.std.proofs.VecSteps.Element.{Some-of, none_of}
use Rattle.std.specs.Prelude.{Some, None, List, [], ◌∷◌, length, not, ◌↔◌}
use Rattle.std.specs.contracts.option.Option as OP
use Rattle.arrow2_bits.specs.ChunksMut.{ChunkCursorMut, chunks_left, next_len, past}
use Rattle.arrow2_model.specs.Lists.{part}
use Rattle.arrow2_bits.proofs.NextChunk.{whole-chunk, past-none}
use Rattle.arrow2_bits.specs.contracts.chunks_exact_mut.BitChunksExactMut.{the_row}
use Rattle.arrow2_bits.specs.contracts.chunks_exact_mut.BitChunksExactMut.next_chunk as f
use Rattle.arrow2_bits.specs.contracts.chunks_exact_mut.BitChunksExactMut.lend_next as g
use Rattle.arrow2_bits.proofs.chunks_exact_mut.BitChunksExactMut.lend_next.Met.{met}
use Rattle.arrow2_bits.proofs.chunks_exact_mut.BitChunksExactMut.next_chunk.Statement.{statement}
use Rattle.arrow2_bits.proofs.chunks_exact_mut.BitChunksExactMut.next_chunk.Code as code

module _ (T : RattleType) where
  abbrev args : Args
  args = layouts (a_type ∷ []) (T, tt)

  abbrev function : Fn
  function = inst_fn args code.function

  abbrev Cursor : Lfts 3 → RattleType
  Cursor κs = the_row (named_lft 3 1 tt κs) (f.T-row T)

  abbrev stayed : Stays (f.ended T).signature.params (f.ended T).kept
  stayed = (stay_dropped (mut_ref_to (0 ∷ []) tt (plain Cursor)) no, tt)

positive : (n : ℕ) → D.T (not (D.eqb n 0)) → 0 < n
positive zero t = absurd t
positive (suc n) t = omega arith

no_chunk : (left n : ℕ) → (0 < left → 0 < n) → n ≡ 0 → left ≡ 0
no_chunk zero n h none = refl
no_chunk (suc left) n h none = let some' : 0 < n = h (omega arith) in absurd (omega arith)

pub next_chunk_spec : {M : Type 1} → statement M
unfolding follows_by
next_chunk_spec 𝓤 𝓛 𝓜 𝓡 wired T laws =
    let c = f.clauses T 𝓛 𝓜.mem 𝓡.returns in let W = walk_of 𝓛 (f.ended T) (stayed T) c in
    proved 𝓛 (f.ended T) (stayed T) c 𝓜 𝓡 (Goes-spent_ref 𝓛 3 (0 ∷ []) tt (plain (Cursor T)), tt)
    (f.Key.name (args T)) (function T) (code.unfolded 𝓤 𝓛.H 𝓜 𝓡 wired (T, tt))
    (λ κs. (mut_vals, tt)) (λ κs. (mut_Tells (named 0) κs.0 (Cursor T κs), tt)) (λ κs qs bounds a _ are.
    let G = triple_of 𝓛 (g.signature T) (g.spec T 𝓛 𝓜.mem 𝓡.returns) in
    let z : G.Ghost = ((κs, qs, bounds, a, (mut_vals a.0, tt)), tt) in
    let y : W.Ghost = ((κs, qs, bounds, a, (mut_vals a.0, tt)), tt) in
    let cursor : ChunkCursorMut = a.0.now in let γ : GName = a.0.ghost_name in
    let S : RattleType = Cursor T κs in let Lent : RattleType = MutSlice (named 0) κs.0 u8 in
    let 𝓣 = tables 𝓤 𝓛.H 𝓜 𝓡 𝓡.env in
    qed 𝓛 (raw (G.pre z) ∷ []) ∵ enter ! _ _ _ _ _ $
    alloc_all ! (λ l. pass_all ! refl ((tt, tt), tt) $
    sets ! (addr ! (through ! refl (stop !))) refl (tt, tt) $
    calls_at ! (framed 𝓤 𝓛.H 𝓜 (tables 𝓤 𝓛.H 𝓜 𝓡 𝓡.env)) G (met 𝓤 𝓛 𝓜 𝓡 (code.calls-arrow2_bits::chunks_exact_mut::BitChunksExactMut::lend_next 𝓡.env wired) T laws) z
    (and_then ! (get ! refl) (no_more !)) (λ v.
    use1 𝓛 (later (some (λ (r : MutBor (List ℕ)). ((‵ (flft κs.0 qs.0) ⊛ ‵ (flft κs.1.0 qs.1.0) ⊛ ‵ (flft κs.1.1.0 qs.1.1.0) ⊛ ‵ ftrue) ⊛ ‵ (Lent.own_val r (v ∷ []))) ⊛
    some (λ (ws : Unit {0} × Unit {0}). ‵ (lasts (g.ended T) κs a ws) ⊛ raw (fact 𝓤 ((0 < length r.now) ↔ (0 < chunks_left cursor))) ⊛ raw (fact 𝓤 (length r.now ≡ next_len cursor))
    ⊛ raw (fact 𝓤 (r.now ≡ part cursor.bytes cursor.at (next_len cursor))) ⊛ ‵ (follows S (Array u8 0) γ r.ghost_name (past cursor (next_len cursor))))))) (id⊢ 𝓤 _) $
    await ! tt $ pick ! (λ r. split ! $ split ! $ move ! (2 ∷ []) $ pick ! (λ ws. split ! $ drop ! $ split3 ! $
    heard ! _ (λ any. heard ! _ (λ len. split ! $ heard ! _ (λ chunk. move ! (2 ∷ []) $
    -- [the chunk; the value that the iterator follows; the tokens; the locals]
    peeks ! Lent _ (shows 𝓛 Lent) r (v ∷ []) (λ is.
    let spare : Room u8 (length r.now) = is.0.1 in
    let n : ℕ = length r.now in
    let lent : Val = slice_val r.ref_ptr n in
    let e : v ≡ lent = ap only is.0.0 in
    rewrite ! 0 (λ (u : Val). ‵ (Lent.own_val r (u ∷ []))) e refl $
    lands_as ! e refl (tt, (tt, (record { fits = spare.0 }, tt))) $
    sets ! (of_opd ! (get_in ! (fld ! refl (stop !)) (sub ! 1 refl (whole !)))) refl (tt, record { fits = spare.0 }) $
    sets ! (bin ! (get ! refl) (lit ! tt) tt) refl (tt, tt) $
    first ! $ branches ! (get ! refl)
    (λ t.
    let none : n ≡ 0 = eqb→eq n 0 t in
    use2 𝓛 (later (given ((lent ∷ []) ≡ mut_slice_vals r) (‵ (fres γ (S.coded.code (past cursor (next_len cursor) r.now)))))) (slice_given_up 𝓛 S u8 (past cursor (next_len cursor)) (named 0) κs.0 γ r (lent ∷ [])) $ await ! tt $ learn ! (λ _.
    rewrite ! 0 (λ (x : ChunkCursorMut). ‵ (fres γ (S.coded.code x))) (past-none cursor r.now (sym len ∙ none) none) refl $
    sets ! (agg ! (and_then ! (lit ! tt) (no_more !))) refl (tt, (record { fits = lit< tt }, tt)) $
    returns_within ! (W.post y) refl (look_at ! 0 refl) $ free_all ! refl $
    use0 𝓛 (‵ ((OP.the_row Lent).own_val None (live 0 (of_list []) ∷ []))) (none_of 𝓛 Lent) $
    suffices ! _ (ends_at 𝓛 (f.ended T) (stayed T) c y (live 0 (of_list [])) None (tt, tt) (tt, tt)) $
    nothing ! $ nothing ! $ fjoin ! $ join ! $ move ! (2 ∷ 0 ∷ []) $ join ! $ frame ! $ says ! (no_chunk (chunks_left cursor) n any.1 none) $ done !))
    (λ t. skips ! $ exec ! 𝓣.C 𝓣.Λ (env (function T).locals l) (after 5 (function T).body) (at_ret _ (W.post y)) $
    let some' : 0 < n = positive n t in
    let full : next_len cursor ≡ cursor.size = whole-chunk cursor (subst (λ (k : ℕ). 0 < k) len some') in
    move ! (1 ∷ []) $ rewrite ! 0 (λ (k : ℕ). ‵ (follows S (Array u8 0) γ r.ghost_name (past cursor k))) full refl $ move ! (1 ∷ []) $
    sets ! (addr ! (from ! (fld ! refl (hop ! (look_in_at ! 2 (sub ! 0 refl (whole !))) (stop !))))) refl (tt, tt) $
    sets ! (agg ! (and_then ! (get ! refl) (and_then ! (get_in ! (fld ! refl (stop !)) (sub ! 1 refl (whole !))) (no_more !)))) refl (tt, (tt, (record { fits = spare.0 }, tt))) $
    sets ! (agg ! (and_then ! (lit ! tt) (and_then ! (get ! refl) (no_more !)))) refl (tt, (record { fits = lit< tt }, ((tt, (record { fits = spare.0 }, tt)), tt))) $
    returns ! (look_at ! 0 refl) $ free_all ! refl $
    use1 𝓛 (‵ ((OP.the_row Lent).own_val (Some r) (live 1 (of_list (lent ∷ [])) ∷ []))) (Some-of 𝓛 Lent r lent) $
    suffices ! _ (ends_at 𝓛 (f.ended T) (stayed T) c y (live 1 (of_list (lent ∷ []))) (Some r) (tt, tt) (tt, tt)) $
    nothing ! $ nothing ! $ fjoin ! $ join ! $ move ! (2 ∷ 0 ∷ []) $ join ! $ frame ! $ says ! (any.0 some', chunk ∙ ap (part cursor.bytes cursor.at) full) $ done !))))))))))
