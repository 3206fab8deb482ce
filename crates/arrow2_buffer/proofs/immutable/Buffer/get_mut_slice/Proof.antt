-- The storage is lent out of the buffer, which stays open meanwhile. The loan that comes back closes it: whatever is
-- written, the storage keeps its length.
use mathlib.Core.Path.{◌≡◌, refl, ap, ◌∙◌}
use Prim.Native.Nat.{ℕ, ◌+◌, ◌-◌, ◌<◌, ◌≤◌, ◌^◌}
use native.Mathlib.Omega.{arith}
use mathlib.Core.Option as maybe
use lib.Dec.{lit<}
use seplogic.Ra.Ura.{Ura}
use mir.Syntax
use mir.Syntax.{Args, Fn, named, a_type, ty_int}
use mir.MapTy.{inst_fn}
use mir.Val.{Val, vint, of_list}
use base.Fraction.{full_share}
use base.Share as halves
use base.Logic.{SProp, ent, sep, emp, id⊢, via}
use base.Fml.{Lft, GName, Share, ftrue, fsep, fat, flft, fres, fauth}
use contract.BorrowLft.{◌⊑◌}
use contract.Fact.{fact_i}
use contract.Monad.{fact}
use contract.Running.{tables}
use denote.Array.{Array}
use denote.Builtin.{usize}
use denote.Exit.{no}
use denote.Follow.{follows_by, follows}
use denote.Laws.{shows}
use denote.Memory.{part_at, part_of, mem, lone}
use denote.Model.Fields.{view_owns, view_made, plain_out, Plain-in}
use denote.Param.{layouts}
use denote.Param.Laws.{Laws, param_laws}
use denote.Plain.{uint_vals, uint_Makes, uint_out, uint_in, uint_Lawful}
use denote.RattleType.{RattleType}
use denote.Ref.{MutBor, MutRef, mut_vals, mut_Tells}
use denote.Signature.{plain, mut_ref_to}
use denote.Slice.{MutSlice, Room, slice_val}
use denote.Steps.{nothing, heard, owned, only, peeks}
use denote.Struct.Members.{Member}
use denote.Struct.Parts.{PartsBack}
use denote.Struct.Pick.{rest_at, field_out, field_back}
use denote.Triple.Call.{calls_at}
use denote.Triple.Clauses.{lasts}
use denote.Triple.Spec.{triple_of}
use denote.Triple.Table.{framed}
use denote.Triple.Walked.{Stays, stay_dropped, walk_of, ends_at, says, Goes-spent_ref}
use types.Logic.{Logic, sem}
use types.Kit.{‵, ◌⊛◌, raw, some, later, ◌$◌, ◌∵◌, !, qed, done, move, keep, drop, use0, use1, use2, split, split3, join, group, fsplit, fsplit3, fjoin, fjoin3, fpick, fpack, feq_l, feq_i, await, pick, suffices, frame, rewrite}
use types.Late.{ages, bor_new_deep}
use types.Match.{live}
use types.Mut.{open_ref}
use types.Run.{enter, addr, bin, of_opd, load, look, stop, fld, and_then, no_more, returns}
use types.ByLocal.{alloc_all, pass_all, free_all, look_at, get, through, sets, lands_as}
use types.Tokens.{name_new}
use borrow.Follows.Late.{closes_said, closes_tie}
use Rattle.std.proofs.raw_atomic.Walks.{proved}
use Rattle.std.proofs.VecSteps.Element.{Some-of, none_of}
use Rattle.std.proofs.alloc.Global.TheLaws as heap_laws
use Rattle.std.proofs.rc.Rc.TheLaws as rc_laws
use Rattle.std.specs.Prelude.{Some, None, Option, IfSome, List, [], ◌∷◌, ◌++◌, length}
use Rattle.std.specs.contracts.alloc.Global as heap
use Rattle.std.specs.contracts.impls.GlobalAllocator.TheImpl.{ghosts}
use Rattle.std.specs.contracts.option.Option as OP
use Rattle.std.specs.Rc.{rc_with_value}
use Rattle.arrow2_model.specs.Lists.{BufferStorage, buffer_items, part}
use Rattle.arrow2_buffer.specs.Loans.{LendsOwnedPart, overwrite_lent, shared_row}
use Rattle.arrow2_buffer.specs.contracts.bytes.Bytes as stored
use Rattle.arrow2_buffer.specs.contracts.immutable.Buffer as buffer
use Rattle.arrow2_buffer.specs.contracts.immutable.Buffer.TheInside as inside
use Rattle.arrow2_buffer.specs.contracts.immutable.Buffer.get_mut_slice as f
use Rattle.arrow2_buffer.specs.contracts.immutable.lend_unshared as g
use Rattle.arrow2_buffer.proofs.Overwrites.{length-rewritten}
use Rattle.arrow2_buffer.proofs.bytes.Bytes.TheLaws as stored_laws
use Rattle.arrow2_buffer.proofs.immutable.lend_unshared.Met.{met}
use Rattle.arrow2_buffer.proofs.immutable.Buffer.get_mut_slice.Statement.{statement}
use Rattle.arrow2_buffer.proofs.immutable.Buffer.get_mut_slice.Code as code

module _ (T : RattleType) where
  abbrev args : Args
  args = layouts (a_type ∷ []) (T, tt)

  abbrev function : Fn
  function = inst_fn args code.function

  abbrev Row : RattleType
  Row = buffer.the_row (f.T-row T)

  abbrev Inside : RattleType
  Inside = inside.the_row (f.T-row T)

  abbrev Owner : RattleType
  Owner = shared_row (f.T-row T)

  abbrev members : List Member
  members = record { row = Owner; ty = lone Owner.mir } ∷ record { row = usize; ty = lone usize.mir } ∷ record { row = usize; ty = lone usize.mir } ∷ []

  abbrev stayed : Stays (f.ended T).signature.params (f.ended T).kept
  stayed = (stay_dropped (mut_ref_to (0 ∷ []) tt (plain (λ _. Row))) no, tt)

  abbrev view : Inside.Denot → BufferStorage T.Denot
  view = buffer.the_view (f.T-row T)

  abbrev good : Inside.Denot → Type 0
  good = buffer.the_invariant (f.T-row T)

  module _ (laws : Laws T) {M : Type 1} {𝓤 : Ura M} (𝓛 : Logic 𝓤) (rb ro : ℕ) (a : Inside.Denot) (ok : good a) where
    abbrev Back : SProp 𝓤
    Back = sep 𝓤 (sem 𝓛 (rest_at full_share members 0 (a.storage, (a.offset, (a.len, tt))) rb ro 0)) (PartsBack 𝓛 full_share [] members rb ro)

    field_of : ent 𝓤 (sem 𝓛 (part_at Inside full_share a rb ro)) (sep 𝓤 (sem 𝓛 (part_at Owner full_share a.storage rb (ro + 0))) Back)
    unfolding part_of
    field_of =
        let stored_law = stored_laws.the_row_laws (f.T-row T) (param_laws 0 T laws) in
        let owner_law = rc_laws.the_row_laws (stored.the_row (f.T-row T)) heap.the_row ghosts stored_law heap_laws.the_row_laws in
        field_out 𝓛 full_share [] members (owner_law.lawful 𝓛, (uint_Lawful 𝓛 Syntax.w64, (uint_Lawful 𝓛 Syntax.w64, tt))) (a.storage, (a.offset, (a.len, tt))) rb ro 0

    -- the storage may come back as any that holds the items
    abbrev Good : Owner.Denot → Type 0
    Good z = a.offset + a.len ≤ length z.value

    abbrev with : (z : Owner.Denot) → Good z → BufferStorage T.Denot
    with z long = record { storage = z.value; offset = a.offset; len = a.len }

    fill : (z : Owner.Denot) (long : Good z) → ent 𝓤 (sep 𝓤 (sem 𝓛 (part_at Owner full_share z rb (ro + 0))) Back) (sem 𝓛 (part_at Row full_share (with z long) rb ro))
    unfolding part_of
    fill z long =
        let b : Inside.Denot = record { storage = z; offset = a.offset; len = a.len } in
        via 𝓤 _ (field_back 𝓛 full_share [] members (z, (a.offset, (a.len, tt))) rb ro 0) (Plain-in Row Inside (view_owns Inside (BufferStorage T.Denot) Row.coded view good) 𝓛 full_share (with z long) b
        (view_made Inside (BufferStorage T.Denot) Row.coded view good 𝓛 (with z long) b (refl, (long, ok.1))) rb ro)

pub get_mut_slice_spec : {M : Type 1} → statement M
unfolding follows_by
get_mut_slice_spec 𝓤 𝓛 𝓜 𝓡 wired T laws =
    let c = f.clauses T 𝓛 𝓜.mem 𝓡.returns in let W = walk_of 𝓛 (f.ended T) (stayed T) c in
    proved 𝓛 (f.ended T) (stayed T) c 𝓜 𝓡 (Goes-spent_ref 𝓛 2 (0 ∷ []) tt (plain (λ _. Row T)), tt)
    (f.Key.name (args T)) (function T) (code.unfolded 𝓤 𝓛.H 𝓜 𝓡 wired (T, tt))
    (λ κs. (mut_vals, tt)) (λ κs. (mut_Tells (named 0) κs.0 (Row T), tt)) (λ κs qs bounds p _ are.
    let R : RattleType = Row T in let Z : RattleType = Owner T in let Items : RattleType = Array (f.T-row T) 0 in let Lent : RattleType = MutSlice (named 0) κs.0 (f.T-row T) in
    let d : BufferStorage T.Denot = p.0.now in let γ : GName = p.0.ghost_name in let rb : ℕ = p.0.ref_ptr.0 in let ro : ℕ = p.0.ref_ptr.1 in
    let κ : Lft = κs.0 in let q : Share = qs.0 in
    let Lives : Type 0 = κs.1.0 ⊑ T.lives in
    let y : W.Ghost = ((κs, qs, bounds, p, (mut_vals p.0, tt)), tt) in
    let Tokens = ‵ (flft κ q) ⊛ ‵ (flft κs.1.0 qs.1.0) ⊛ ‵ ftrue in
    qed 𝓛 ((Tokens ⊛ ‵ ((MutRef (named 0) κ R).own_val p.0 (mut_vals p.0)) ⊛ ‵ ftrue) ∷ (raw (fact 𝓤 Lives) ⊛ ‵ ftrue) ∷ []) ∵
    move ! (1 ∷ []) $ split ! $ heard ! _ (λ lives. drop ! $ split3 ! $ move ! (1 ∷ []) $ fsplit3 ! $ drop ! $ move ! (2 ∷ []) $ split3 ! $
    -- [the first token; the second; true; the name; the borrow; true]
    use1 𝓛 (‵ (flft κ (halves.left q)) ⊛ ‵ (flft κ (halves.right q))) (𝓛.lfts.lft_split κ q) $ split ! $ move ! (4 ∷ 5 ∷ 0 ∷ 1 ∷ []) $
    -- [the name; the borrow; the halves of the first token; the second; true]
    enter ! _ _ _ _ _ $ alloc_all ! (λ l. pass_all ! refl ((tt, tt), tt) $
    open_ref ! tt (mem R) {x = d} {b = rb} {o = ro} $
    use1 𝓛 (some (λ (x : (a : (Inside T).Denot) × ((view T a ≡ d) × good T a)). ‵ (part_at (Inside T) full_share x.0 rb ro))) (plain_out R (Inside T) (view_owns (Inside T) (BufferStorage T.Denot) R.coded (view T) (good T)) 𝓛 full_share d rb ro) $ pick ! (λ x.
    let a : (Inside T).Denot = x.0 in let seen : view T a ≡ d = x.1.0 in let ok : good T a = x.1.1 in
    let start : ℕ = a.offset in let end : ℕ = a.offset + a.len in
    let short : start < 2 ^ 64 = omega (arith, ok.1) in let short' : a.len < 2 ^ 64 = omega (arith, ok.1) in
    let Offset = ‵ (part_at usize full_share a.offset rb (ro + 8)) in let Len = ‵ (part_at usize full_share a.len rb (ro + 16)) in
    use1 𝓛 (‵ (part_at Z full_share a.storage rb (ro + 0)) ⊛ raw (Back T laws 𝓛 rb ro a ok)) (field_of T laws 𝓛 rb ro a ok) $ split ! $ move ! (1 ∷ []) $
    use1 𝓛 ((Offset ⊛ Len ⊛ ‵ ftrue) ⊛ raw (PartsBack 𝓛 full_share [] (members T) rb ro)) (id⊢ 𝓤 _) $ split ! $ split3 ! $
    -- [the offset; the length; true; the way back; the storage; the open borrow; the name's two halves; a half of the
    -- first token; the second; true]
    use1 𝓛 (‵ (fat full_share (ty_int Syntax.w64) rb (ro + 8) (vint Syntax.w64 start))) (uint_out 𝓛 full_share Syntax.w64 start rb (ro + 8)) $ move ! (1 ∷ []) $
    use1 𝓛 (‵ (fat full_share (ty_int Syntax.w64) rb (ro + 16) (vint Syntax.w64 a.len))) (uint_out 𝓛 full_share Syntax.w64 a.len rb (ro + 16)) $
    sets ! (of_opd ! (load ! (through ! refl (fld ! refl (stop !))) (look ! 1 refl))) refl (tt, record { fits = short }) $
    sets ! (of_opd ! (load ! (through ! refl (fld ! refl (stop !))) (look ! 0 refl))) refl (tt, record { fits = short' }) $
    sets ! (bin ! (get ! refl) (get ! refl) (record { fits = ok.1 })) refl (tt, record { fits = ok.1 }) $
    use1 𝓛 Len (uint_in 𝓛 full_share Syntax.w64 a.len rb (ro + 16)) $ move ! (1 ∷ []) $ use1 𝓛 Offset (uint_in 𝓛 full_share Syntax.w64 start rb (ro + 8)) $
    group ! 3 $ join ! $ use1 𝓛 (raw (Back T laws 𝓛 rb ro a ok)) (id⊢ 𝓤 _) $
    -- [what stays of the buffer; the storage; the open borrow; the name's two halves; a half of the first token; the
    -- second; true]
    move ! (2 ∷ []) $ ages ! (λ n. name_new ! tt (Z.coded.code a.storage) (λ δ. move ! (4 ∷ 1 ∷ []) $ fjoin ! $
    fpack ! Z.Denot (λ z. fsep (part_at Z full_share z rb (ro + 0)) (fauth δ (Z.coded.code z))) a.storage $ bor_new_deep ! tt n κ $
    let r : MutBor Z.Denot = record { ref_ptr = (rb, ro + 0); ghost_name = δ; now = a.storage } in
    move ! (2 ∷ 0 ∷ []) $ feq_i ! (List Val) (mut_vals r) (mut_vals r) refl $ fjoin3 ! $
    sets ! (addr ! (through ! refl (fld ! refl (stop !)))) refl (tt, tt) $
    -- [the reference; the right to the storage; the open borrow; what stays; the name's two halves; the tokens]
    let G = triple_of 𝓛 (g.signature T) (g.spec T 𝓛 𝓜.mem 𝓡.returns) in
    let z : G.Ghost = ((κs, (halves.right q, qs.1), bounds, (r, (start, (end, tt))), (mut_vals r, (uint_vals Syntax.w64 start, (uint_vals Syntax.w64 end, tt)))), tt) in
    let Left = ‵ (flft κ (halves.right q)) ⊛ ‵ (flft κs.1.0 qs.1.0) ⊛ ‵ ftrue in
    let Order : Type 0 = start ≤ end in let Within : Type 0 = end ≤ length a.storage.value in
    move ! (6 ∷ 7 ∷ 8 ∷ []) $ group ! 3 $
    nothing ! $ owned ! usize _ (uint_Makes 𝓛 Syntax.w64) end _ (refl, ok.1) $ fjoin ! $ owned ! usize _ (uint_Makes 𝓛 Syntax.w64) start _ (refl, short) $ fjoin ! $ move ! (2 ∷ 0 ∷ []) $ fjoin ! $ move ! (1 ∷ 0 ∷ []) $ join ! $
    use0 𝓛 (raw (fact 𝓤 Within)) (fact_i 𝓤 Within (emp 𝓤) ok.0) $ use0 𝓛 (raw (fact 𝓤 Order)) (fact_i 𝓤 Order (emp 𝓤) (omega arith)) $ join ! $ use0 𝓛 (raw (fact 𝓤 Lives)) (fact_i 𝓤 Lives (emp 𝓤) lives) $ join ! $ move ! (1 ∷ 0 ∷ []) $ join ! $
    use1 𝓛 (raw (G.pre z)) (id⊢ 𝓤 _) $
    calls_at ! (framed 𝓤 𝓛.H 𝓜 (tables 𝓤 𝓛.H 𝓜 𝓡 𝓡.env)) G (met 𝓤 𝓛 𝓜 𝓡 (code.calls-arrow2_buffer::immutable::lend_unshared 𝓡.env wired) T laws) z
    (and_then ! (get ! refl) (and_then ! (get ! refl) (and_then ! (get ! refl) (no_more !)))) (λ v.
    use1 𝓛 (later (some (λ (o : Option (MutBor (List T.Denot))). (Left ⊛ ‵ ((OP.the_row Lent).own_val o (v ∷ []))) ⊛
    some (λ (ws : Unit {0} × (Unit {0} × (Unit {0} × Unit {0}))). ‵ (lasts (g.ended T) κs (r, (start, (end, tt))) ws) ⊛ ‵ (LendsOwnedPart (f.T-row T) r start o) ⊛ raw (fact 𝓤 (IfSome o (λ s. s.now ≡ part a.storage.value start (end - start)))))))) (id⊢ 𝓤 _) $
    await ! tt $ pick ! (elim [
      | None ↦ split ! $ split ! $ move ! (1 ∷ []) $ fpick ! (λ us. fsplit ! $ feq_l ! (λ e. fpick ! (λ vss. fsplit ! $ feq_l ! (λ e'. drop ! $
          let is : v ≡ live 0 (of_list []) = ap only e ∙ ap (λ ws. live 0 (of_list ws)) e' in
          move ! (1 ∷ []) $ pick ! (λ ws. split3 ! $ drop ! $ move ! (1 ∷ []) $ drop ! $
          -- [the final value of the storage; the tokens; the right to the storage; the open borrow; the frame; the
          -- name's two halves]
          move ! (3 ∷ 5 ∷ 6 ∷ 2 ∷ 0 ∷ 4 ∷ []) $ group ! 6 $
          use1 𝓛 (later (‵ (flft κ (halves.left q)) ⊛ ‵ (fres γ (R.coded.code (view T a)))))
          (closes_said R Z Items (Good T laws 𝓛 rb ro a ok) (with T laws 𝓛 rb ro a ok) 𝓛 n κ (halves.left q) rb ro (ro + 0) γ δ (R.coded.code d) (Back T laws 𝓛 rb ro a ok) (fill T laws 𝓛 rb ro a ok) a.storage ok.0) $ await ! tt $ split ! $
          move ! (1 ∷ []) $ rewrite ! 0 (λ (u : BufferStorage T.Denot). ‵ (fres γ (R.coded.code u))) seen refl $
          move ! (2 ∷ []) $ split3 ! $ move ! (4 ∷ 0 ∷ []) $ use2 𝓛 (‵ (flft κ q)) (𝓛.lfts.lft_join κ q) $ group ! 3 $
          lands_as ! is refl (tt, (record { fits = lit< tt }, tt)) $ returns ! (look_at ! 0 refl) $ free_all ! refl $ keep ! (0 ∷ 1 ∷ []) $
          use0 𝓛 (‵ ((OP.the_row Lent).own_val None (live 0 (of_list []) ∷ []))) (none_of 𝓛 Lent) $
          suffices ! _ (ends_at 𝓛 (f.ended T) (stayed T) c y (live 0 (of_list [])) None (tt, tt) (tt, tt)) $
          nothing ! $ nothing ! $ fjoin ! $ join ! $ move ! (1 ∷ 0 ∷ []) $ join ! $ frame ! $ says ! tt $ done !)))))
      | Some s ↦ split ! $ split ! $ move ! (1 ∷ []) $ fpick ! (λ us. fsplit ! $ feq_l ! (λ e. fpick ! (λ vss. fsplit ! $ feq_l ! (λ e'. fsplit ! $ move ! (1 ∷ []) $ drop ! $
          peeks ! Lent _ (shows 𝓛 Lent) s vss.0 (λ is'.
          let spare : Room (f.T-row T) (length s.now) = is'.0.1 in let lent : Val = slice_val s.ref_ptr (length s.now) in
          let is : v ≡ live 1 (of_list (lent ∷ [])) = ap only e ∙ ap (λ ws. live 1 (of_list ws)) (e' ∙ ap (λ ws. ws ++ []) is'.0.0) in
          rewrite ! 0 (λ (us : List Val). ‵ (Lent.own_val s us)) is'.0.0 refl $ move ! (2 ∷ []) $ pick ! (λ ws. split3 ! $ drop ! $ move ! (1 ∷ []) $ heard ! _ (λ value.
          let back : List T.Denot → Z.Denot = λ w. rc_with_value a.storage (overwrite_lent a.storage.value start w) in
          let long : (w : List T.Denot) → end ≤ length (back w).value = λ w. rw length-rewritten ok.0 in
          -- [the value that the storage follows; the items; the tokens; the right to the storage; the open borrow; the
          -- frame; the name's two halves]
          move ! (4 ∷ 6 ∷ 7 ∷ 3 ∷ 0 ∷ 5 ∷ []) $ group ! 6 $
          use1 𝓛 (later (‵ (flft κ (halves.left q)) ⊛ ‵ (follows R Items γ s.ghost_name (λ w. with T laws 𝓛 rb ro a ok (back w) (long w)))))
          (closes_tie R Z Items (Good T laws 𝓛 rb ro a ok) (with T laws 𝓛 rb ro a ok) 𝓛 n κ (halves.left q) rb ro (ro + 0) γ δ (R.coded.code d) (Back T laws 𝓛 rb ro a ok) (fill T laws 𝓛 rb ro a ok) s.ghost_name (maybe.some back) long) $ await ! tt $ split ! $
          move ! (1 ∷ []) $ rewrite ! 0 (λ (u : BufferStorage T.Denot). ‵ (follows R Items γ s.ghost_name (λ w. record u { storage = overwrite_lent u.storage u.offset w }))) seen refl $
          move ! (3 ∷ []) $ split3 ! $ move ! (4 ∷ 0 ∷ []) $ use2 𝓛 (‵ (flft κ q)) (𝓛.lfts.lft_join κ q) $ group ! 3 $
          lands_as ! is refl (tt, (record { fits = lit< tt }, ((tt, (record { fits = spare.0 }, tt)), tt))) $ returns ! (look_at ! 0 refl) $ free_all ! refl $ keep ! (0 ∷ 1 ∷ 2 ∷ []) $ move ! (2 ∷ []) $
          use1 𝓛 (‵ ((OP.the_row Lent).own_val (Some s) (live 1 (of_list (lent ∷ [])) ∷ []))) (Some-of 𝓛 Lent s lent) $
          suffices ! _ (ends_at 𝓛 (f.ended T) (stayed T) c y (live 1 (of_list (lent ∷ []))) (Some s) (tt, tt) (tt, tt)) $
          let same : end - start ≡ a.len = omega arith in
          nothing ! $ nothing ! $ fjoin ! $ join ! $ move ! (1 ∷ 0 ∷ []) $ join ! $ frame ! $ says ! (value ∙ ap (part a.storage.value start) same ∙ ap buffer_items seen) $ done !)))))))
    ]))))))))
