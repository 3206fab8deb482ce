-- A part of the bytes is lent on, and the iterator follows it.
use mathlib.Core.Path.{◌≡◌, refl, sym, ap, subst, ◌∙◌}
use Prim.Native.Nat.{ℕ, ◌+◌, ◌-◌, ◌^◌, ◌<◌, ◌≤◌}
use native.Mathlib.Omega.{arith}
use mathlib.Core.List.{List, [], ◌∷◌, ◌++◌}
use lib.ListN.{length, take, drop as following, take-append-drop, length-drop}
use mir.Syntax
use mir.Syntax.{Args, Fn, named, a_type}
use mir.MapTy.{inst_fn}
use mir.Val.{Val}
use base.Logic.{id⊢, emp}
use base.Fml.{GName, ftrue, flft}
use contract.BorrowLft.{◌⊑◌}
use contract.Fact.{fact_i}
use contract.Lifetimes.{Lfts}
use contract.Monad.{fact}
use contract.Running.{tables}
use types.Kit.{‵, ◌⊛◌, raw, some, later, ◌$◌, ◌∵◌, !, qed, done, move, keep, drop, use0, use1, use2, split, split3, join, fjoin, await, pick, suffices, frame, rewrite}
use types.Part.{whole, sub, agg}
use types.Run.{enter, addr, bin, stop, fld, and_then, no_more, returns}
use types.ByLocal.{alloc_all, pass_all, free_all, look_at, get, get_in, through, sets, lands_as}
use denote.Array.{Array}
use denote.Builtin.{u8, usize}
use denote.Exit.{no, yes}
use denote.Follow.{follows, follows_then}
use denote.Laws.{shows}
use denote.Memory.{mem}
use denote.Param.{layouts}
use denote.Plain.{uint_vals, uint_Tells}
use denote.RattleType.{RattleType}
use denote.Ref.{MutBor, MutRef, mut_vals, mut_Tells}
use denote.Signature.{plain, mut_ref_to, named_lft}
use denote.Slice.{MutSlice, Room, slice_val}
use denote.Steps.{nothing, heard, peeks, only}
use denote.Triple.Call.{calls_at}
use denote.Triple.Clauses.{lasts}
use denote.Triple.Spec.{triple_of}
use denote.Triple.Table.{framed}
use denote.Triple.Walked.{Stays, stay_dropped, walk_of, ends_at, says, Goes-spent_ref, Goes-dropped}
use borrow.Table.Elements.{at, at_mul, length-take-le}
use Rattle.std.proofs.raw_atomic.Walks.{proved}
use Rattle.arrow2_model.specs.Lists.{overwrite}
use Rattle.arrow2_bits.specs.ChunksMut.{ChunkCursorMut}
use Rattle.arrow2_bits.proofs.Lending.{part_lent, lends_part}
use Rattle.arrow2_bits.specs.contracts.chunks_exact_mut.BitChunksExactMut.{the_row}
use Rattle.arrow2_bits.specs.contracts.chunks_exact_mut.BitChunksExactMut.part_mut as f
use Rattle.arrow2_bits.specs.contracts.chunks_exact_mut.BitChunksExactMut.bytes_mut as g
use Rattle.arrow2_bits.proofs.chunks_exact_mut.BitChunksExactMut.bytes_mut.Met.{met}
use Rattle.arrow2_bits.proofs.chunks_exact_mut.BitChunksExactMut.part_mut.Statement.{statement}
use Rattle.arrow2_bits.proofs.chunks_exact_mut.BitChunksExactMut.part_mut.Code as code

module _ (T : RattleType) where
  abbrev args : Args
  args = layouts (a_type ∷ []) (T, tt)

  abbrev function : Fn
  function = inst_fn args code.function

  abbrev Cursor : Lfts 3 → RattleType
  Cursor κs = the_row (named_lft 3 1 tt κs) (f.T-row T)

  abbrev stayed : Stays (f.ended T).signature.params (f.ended T).kept
  stayed = (stay_dropped (mut_ref_to (0 ∷ []) tt (plain Cursor)) no, (stay_dropped (plain (λ _. usize)) yes, (stay_dropped (plain (λ _. usize)) yes, tt)))

pub part_mut_spec : {M : Type 1} → statement M
part_mut_spec 𝓤 𝓛 𝓜 𝓡 wired T laws =
    let c = f.clauses T 𝓛 𝓜.mem 𝓡.returns in let W = walk_of 𝓛 (f.ended T) (stayed T) c in
    let goes = Goes-dropped 𝓛 3 (plain (λ _. usize)) yes (λ κs x w. refl) in
    proved 𝓛 (f.ended T) (stayed T) c 𝓜 𝓡 (Goes-spent_ref 𝓛 3 (0 ∷ []) tt (plain (Cursor T)), (goes, (goes, tt)))
    (f.Key.name (args T)) (function T) (code.unfolded 𝓤 𝓛.H 𝓜 𝓡 wired (T, tt))
    (λ κs. (mut_vals, (uint_vals Syntax.w64, (uint_vals Syntax.w64, tt)))) (λ κs. (mut_Tells (named 0) κs.0 (Cursor T κs), (uint_Tells Syntax.w64, (uint_Tells Syntax.w64, tt)))) (λ κs qs bounds a _ are.
    let G = triple_of 𝓛 (g.signature T) (g.spec T 𝓛 𝓜.mem 𝓡.returns) in
    let z : G.Ghost = ((κs, qs, bounds, (a.0, tt), (mut_vals a.0, tt)), tt) in
    let y : W.Ghost = ((κs, qs, bounds, a, (mut_vals a.0, (uint_vals Syntax.w64 a.1.0, (uint_vals Syntax.w64 a.1.1.0, tt)))), tt) in
    let cursor : ChunkCursorMut = a.0.now in let γ : GName = a.0.ghost_name in
    let start : ℕ = a.1.0 in let end : ℕ = a.1.1.0 in let n : ℕ = end - start in
    let Lives : Type 0 = κs.1.1.0 ⊑ T.lives in let Order : Type 0 = start ≤ end in let Within : Type 0 = end ≤ length cursor.bytes in
    let S : RattleType = Cursor T κs in let Lent : RattleType = MutSlice (named 0) κs.0 u8 in
    let Others = ‵ (flft κs.1.0 qs.1.0) ⊛ ‵ (flft κs.1.1.0 qs.1.1.0) ⊛ ‵ ftrue in
    let Tokens = ‵ (flft κs.0 qs.0) ⊛ Others in
    qed 𝓛 ((Tokens ⊛ ‵ ((MutRef (named 0) κs.0 S).own_val a.0 (mut_vals a.0)) ⊛ ‵ (usize.own_val start (uint_vals Syntax.w64 start)) ⊛ ‵ (usize.own_val end (uint_vals Syntax.w64 end)) ⊛ ‵ ftrue) ∷ (raw (fact 𝓤 Lives) ⊛ raw (fact 𝓤 Order) ⊛ raw (fact 𝓤 Within)) ∷ []) ∵
    move ! (1 ∷ []) $ split3 ! $ heard ! _ (λ lives. heard ! _ (λ order. heard ! _ (λ within.
    split ! $ move ! (1 ∷ []) $ split3 ! $ keep ! (0 ∷ 3 ∷ []) $
    -- [the reference; the tokens]
    nothing ! $ move ! (1 ∷ 0 ∷ []) $ fjoin ! $ move ! (1 ∷ 0 ∷ []) $ join ! $
    nothing ! $ use0 𝓛 (raw (fact 𝓤 Lives)) (fact_i 𝓤 Lives (emp 𝓤) lives) $ join ! $ move ! (1 ∷ 0 ∷ []) $ join ! $
    use1 𝓛 (raw (G.pre z)) (id⊢ 𝓤 _) $
    enter ! _ _ _ _ _ $ alloc_all ! (λ l. pass_all ! refl ((tt, tt), ((tt, record { fits = are.1.0.1 }), ((tt, record { fits = are.1.1.0.1 }), tt))) $
    sets ! (addr ! (through ! refl (stop !))) refl (tt, tt) $
    calls_at ! (framed 𝓤 𝓛.H 𝓜 (tables 𝓤 𝓛.H 𝓜 𝓡 𝓡.env)) G (met 𝓤 𝓛 𝓜 𝓡 (code.calls-arrow2_bits::chunks_exact_mut::BitChunksExactMut::bytes_mut 𝓡.env wired) T laws) z
    (and_then ! (get ! refl) (no_more !)) (λ v.
    use1 𝓛 (later (some (λ (r : MutBor (List ℕ)). (Tokens ⊛ ‵ (Lent.own_val r (v ∷ []))) ⊛
    some (λ (ws : Unit {0} × Unit {0}). ‵ (lasts (g.ended T) κs (a.0, tt) ws) ⊛ raw (fact 𝓤 (r.now ≡ cursor.bytes)) ⊛ ‵ (follows S (Array u8 0) γ r.ghost_name (λ w. record cursor { bytes = w })))))) (id⊢ 𝓤 _) $
    await ! tt $ pick ! (λ r. split ! $ split ! $ move ! (2 ∷ []) $ pick ! (λ ws. split3 ! $ drop ! $ heard ! _ (λ same. move ! (2 ∷ []) $
    -- [the bytes; how the iterator follows them; the tokens; the locals]
    peeks ! Lent _ (shows 𝓛 Lent) r (v ∷ []) (λ is.
    let b : ℕ = r.ref_ptr.0 in let o : ℕ = r.ref_ptr.1 in let p : ℕ = start + o in
    let xs : List ℕ = r.now in
    let spare : Room u8 (length xs) = is.0.1 in
    let inside : end ≤ length xs = subst (λ (items : List ℕ). end ≤ length items) (sym same) within in
    let e : v ≡ slice_val r.ref_ptr (length xs) = ap only is.0.0 in
    let front : List ℕ = take start xs in let ahead : List ℕ = following start xs in let part : List ℕ = take n ahead in let back : List ℕ = following n ahead in
    let before : length front ≡ start = length-take-le start xs (omega (arith, order, inside)) in
    let left : length ahead ≡ length xs - start = length-drop start xs in
    let long : length part ≡ n = length-take-le n ahead (omega (arith, order, inside, left)) in
    let cut : xs ≡ front ++ (part ++ back) = sym (take-append-drop start xs) ∙ ap (λ (items : List ℕ). front ++ items) (sym (take-append-drop n ahead)) in
    let on : at o (mem u8).size (length front) ≡ p = at_mul o (mem u8).size (length front) ∙ omega (arith, before) in
    let fits : n < 2 ^ 64 = omega (arith, inside, spare.0) in
    let spare' : Room u8 (length part) = (omega (arith, long, fits), omega (arith, long, inside, spare.1)) in
    let around : (ws : List ℕ) → length ws ≡ length part → front ++ (ws ++ back) ≡ overwrite xs start ws = λ ws e'. ap (λ (k : ℕ). front ++ (ws ++ following k ahead)) (sym (e' ∙ long)) in
    let s : GName → MutBor (List ℕ) = λ δ. record { ref_ptr = (b, p); ghost_name = δ; now = part } in
    rewrite ! 0 (λ (u : Val). ‵ (Lent.own_val r (u ∷ []))) e refl $
    lands_as ! e refl (tt, (tt, (record { fits = spare.0 }, tt))) $
    sets ! (bin ! (get_in ! (fld ! refl (stop !)) (sub ! 0 refl (whole !))) (get ! refl) tt) refl (tt, tt) $
    sets ! (bin ! (get ! refl) (get ! refl) order) refl (tt, record { fits = fits }) $
    sets ! (addr ! (through ! refl (stop !))) refl (tt, tt) $
    sets ! (agg ! (and_then ! (get ! refl) (and_then ! (get ! refl) (no_more !)))) refl (tt, (tt, (record { fits = fits }, tt))) $
    move ! (2 ∷ []) $ split ! $ move ! (2 ∷ 0 ∷ []) $
    -- [the bytes; their token; the other tokens; how the iterator follows them; the locals]
    use2 𝓛 (later (some (part_lent 𝓛 (named 0) κs.0 qs.0 b o r.ghost_name u8 xs front part back cut p on spare' (overwrite xs start) around)))
    (lends_part 𝓛 (named 0) κs.0 qs.0 b o r.ghost_name u8 xs front part back cut p on spare' (overwrite xs start) around (slice_val r.ref_ptr (length xs) ∷ [])) $ await ! tt $ pick ! (λ δ. split3 ! $
    rewrite ! 0 (λ (k : ℕ). ‵ (Lent.own_val (s δ) (slice_val (b, p) k ∷ []))) long refl $
    -- [the part; its token; how the bytes follow it; the other tokens; how the iterator follows the bytes; the locals]
    move ! (4 ∷ 2 ∷ []) $
    use2 𝓛 (‵ (follows S (Array u8 0) γ δ (λ w. record cursor { bytes = overwrite xs start w })))
    (follows_then 𝓛 S (Array u8 0) (Array u8 0) (λ w. record cursor { bytes = w }) (overwrite xs start) γ r.ghost_name δ) $
    rewrite ! 0 (λ (items : List ℕ). ‵ (follows S (Array u8 0) γ δ (λ w. record cursor { bytes = overwrite items start w }))) same refl $
    returns ! (look_at ! 0 refl) $ free_all ! refl $ move ! (2 ∷ 3 ∷ []) $ join ! $ move ! (2 ∷ 1 ∷ 0 ∷ []) $
    -- [the part; how the iterator follows it; the tokens]
    suffices ! _ (ends_at 𝓛 (f.ended T) (stayed T) c y (slice_val (b, p) n) (s δ) (tt, (tt, (tt, tt))) (tt, (tt, (tt, tt)))) $
    nothing ! $ nothing ! $ fjoin ! $ nothing ! $ fjoin ! $ nothing ! $ fjoin ! $ join ! $ move ! (2 ∷ 0 ∷ []) $ join ! $ frame ! $ says ! (ap (λ (items : List ℕ). take n (following start items)) same) $ done !)))))))))))
