-- The part of the storage leaves in an `Option`, and the shared storage follows it.
use mathlib.Core.Path.{◌≡◌, refl, ap, sym, subst, ◌∙◌}
use Prim.Native.Nat.{ℕ, ◌≤◌, ◌-◌}
use lib.Dec.{lit<}
use mir.Syntax
use mir.Syntax.{Body, Args, Fn, named, a_type}
use mir.MapTy.{inst_fn}
use mir.Val.{Val, vptr, of_list}
use base.Logic.{id⊢, emp}
use base.Fml.{ftrue, flft}
use contract.BorrowLft.{◌⊑◌}
use contract.Fact.{fact_i}
use contract.Monad.{fact}
use contract.Running.{tables}
use denote.Param.{layouts}
use prog.Wp.{Env, Wp, after_seq, at_return}
use types.Kit.{Post, any_q, fpick, feq_l, feq_i, ‵, ◌⊛◌, raw, some, later, at_ret, ◌$◌, ◌∵◌, !, qed, done, move, keep, drop, use0, use1, use2, split, split3, join, fsplit, fjoin, await, pick, suffices, frame, rewrite}
use types.Run.{enter, addr, of_opd, lit, stop, fld, and_then, no_more, first, exec, returns, switches_on}
use types.Part.{whole, agg}
use types.Match.{live, vrt, in_variant}
use types.ByLocal.{alloc_all, pass_all, free_all, look_at, get, get_in, get_tag, through, sets, sets_last, lands_as, env}
use denote.Builtin.{usize}
use denote.Exit.{no, yes}
use denote.RattleType.{RattleType}
use denote.Ref.{MutBor, MutRef, mut_vals, mut_Tells}
use denote.Plain.{uint_vals, uint_Tells, uint_Makes}
use denote.Signature.{plain, mut_ref_to}
use denote.Slice.{MutSlice, Room, slice_val}
use denote.Steps.{nothing, heard, owned, only, peeks}
use denote.Array.{Array}
use denote.Laws.{shows}
use denote.Follow.{follows_by, follows, follows_then}
use denote.Triple.Call.{calls_at}
use denote.Triple.Clauses.{lasts}
use denote.Triple.Spec.{triple_of}
use denote.Triple.Table.{framed}
use denote.Triple.Walked.{Stays, stay_dropped, walk_of, ends_at, says, Goes-spent_ref, Goes-dropped}
use Rattle.std.proofs.raw_atomic.Walks.{proved}
use Rattle.std.proofs.VecSteps.Element.{Some-of, none_of}
use Rattle.std.proofs.VecSteps.Shapes.{after, head, arm_body}
use Rattle.std.specs.Prelude.{Some, None, Option, IfSome, List, [], ◌∷◌, ◌++◌, length}
use Rattle.std.specs.Rc.{rc_with_value}
use Rattle.std.specs.contracts.option.Option as OP
use Rattle.arrow2_model.specs.Lists.{part}
use Rattle.arrow2_buffer.specs.Loans.{LendsOwned, LendsPart, overwrite_lent, shared_row}
use Rattle.arrow2_buffer.specs.contracts.bytes.Bytes as stored
use Rattle.arrow2_buffer.specs.contracts.immutable.lend_unshared as f
use Rattle.arrow2_buffer.specs.contracts.bytes.Bytes.get_mut as g
use Rattle.arrow2_buffer.specs.contracts.bytes.Bytes.part_mut as h
use Rattle.arrow2_buffer.proofs.bytes.Bytes.get_mut.Met as g_met
use Rattle.arrow2_buffer.proofs.bytes.Bytes.part_mut.Met as h_met
use Rattle.arrow2_buffer.proofs.immutable.lend_unshared.Statement.{statement}
use Rattle.arrow2_buffer.proofs.immutable.lend_unshared.Code as code

module _ (T : RattleType) where
  abbrev args : Args
  args = layouts (a_type ∷ []) (T, tt)

  abbrev function : Fn
  function = inst_fn args code.function

  abbrev stayed : Stays (f.ended T).signature.params (f.ended T).kept
  stayed = (stay_dropped (mut_ref_to (0 ∷ []) tt (plain (λ _. shared_row (f.T-row T)))) no, (stay_dropped (plain (λ _. usize)) yes, (stay_dropped (plain (λ _. usize)) yes, tt)))

pub lend_unshared_spec : {M : Type 1} → statement M
unfolding follows_by
lend_unshared_spec 𝓤 𝓛 𝓜 𝓡 wired T laws =
    let c = f.clauses T 𝓛 𝓜.mem 𝓡.returns in let W = walk_of 𝓛 (f.ended T) (stayed T) c in
    let goes = Goes-dropped 𝓛 2 (plain (λ _. usize)) yes (λ κs x w. refl) in
    proved 𝓛 (f.ended T) (stayed T) c 𝓜 𝓡 (Goes-spent_ref 𝓛 2 (0 ∷ []) tt (plain (λ _. shared_row (f.T-row T))), (goes, (goes, tt)))
    (f.Key.name (args T)) (function T) (code.unfolded 𝓤 𝓛.H 𝓜 𝓡 wired (T, tt))
    (λ κs. (mut_vals, (uint_vals Syntax.w64, (uint_vals Syntax.w64, tt)))) (λ κs. (mut_Tells (named 0) κs.0 (shared_row (f.T-row T)), (uint_Tells Syntax.w64, (uint_Tells Syntax.w64, tt)))) (λ κs qs bounds a _ are.
    let G = triple_of 𝓛 (g.signature T) (g.spec T 𝓛 𝓜.mem 𝓡.returns) in
    let z : G.Ghost = ((κs, qs, bounds, (a.0, tt), (mut_vals a.0, tt)), tt) in
    let 𝓣 = tables 𝓤 𝓛.H 𝓜 𝓡 𝓡.env in
    let start : ℕ = a.1.0 in let end : ℕ = a.1.1.0 in
    let Order : Type 0 = start ≤ end in let Within : Type 0 = end ≤ length a.0.now.value in let Lives : Type 0 = κs.1.0 ⊑ T.lives in
    let Own = (MutRef (named 0) κs.0 (shared_row (f.T-row T))).own_val a.0 (mut_vals a.0) in
    let Answer : RattleType = OP.the_row (MutRef (named 0) κs.0 (stored.the_row (f.T-row T))) in
    let Lent : RattleType = MutSlice (named 0) κs.0 (f.T-row T) in
    let y : W.Ghost = ((κs, qs, bounds, a, (mut_vals a.0, (uint_vals Syntax.w64 start, (uint_vals Syntax.w64 end, tt)))), tt) in
    let matches : Body = head (after 2 (function T).body) in
    let Tokens = ‵ (flft κs.0 qs.0) ⊛ ‵ (flft κs.1.0 qs.1.0) ⊛ ‵ ftrue in
    qed 𝓛 ((Tokens ⊛ ‵ Own ⊛ ‵ (usize.own_val start (uint_vals Syntax.w64 start)) ⊛ ‵ (usize.own_val end (uint_vals Syntax.w64 end)) ⊛ ‵ ftrue) ∷ (raw (fact 𝓤 Lives) ⊛ raw (fact 𝓤 Order) ⊛ raw (fact 𝓤 Within)) ∷ []) ∵
    move ! (1 ∷ []) $ split3 ! $ heard ! _ (λ lives. heard ! _ (λ order. heard ! _ (λ within.
    split ! $ move ! (1 ∷ []) $ split3 ! $ keep ! (0 ∷ 3 ∷ []) $
    -- [the reference; the tokens]
    nothing ! $ move ! (1 ∷ 0 ∷ []) $ fjoin ! $ move ! (1 ∷ 0 ∷ []) $ join ! $
    nothing ! $ use0 𝓛 (raw (fact 𝓤 Lives)) (fact_i 𝓤 Lives (emp 𝓤) lives) $ join ! $ move ! (1 ∷ 0 ∷ []) $ join ! $
    use1 𝓛 (raw (G.pre z)) (id⊢ 𝓤 _) $
    enter ! _ _ _ _ _ $ alloc_all ! (λ l.
    let En : Env 𝓤 𝓛.H = env (function T).locals l in
    let Then : Post 𝓤 𝓛.H = any_q (after_seq 𝓤 𝓛.H (Wp 𝓤 𝓛.H 𝓣.C 𝓣.Λ En (after 3 (function T).body) (at_return 𝓤 𝓛.H En (W.post y))) (at_return 𝓤 𝓛.H En (W.post y))) in
    pass_all ! refl ((tt, tt), ((tt, record { fits = are.1.0.1 }), ((tt, record { fits = are.1.1.0.1 }), tt))) $
    sets ! (addr ! (through ! refl (stop !))) refl (tt, tt) $
    calls_at ! (framed 𝓤 𝓛.H 𝓜 (tables 𝓤 𝓛.H 𝓜 𝓡 𝓡.env)) G (g_met.met 𝓤 𝓛 𝓜 𝓡 (code.calls-arrow2_buffer::bytes::Bytes::get_mut 𝓡.env wired) T laws) z
    (and_then ! (get ! refl) (no_more !)) (λ v.
    use1 𝓛 (later (some (λ (r : Option (MutBor (List T.Denot))). (Tokens ⊛ ‵ (Answer.own_val r (v ∷ []))) ⊛
    some (λ (ws : Unit {0} × Unit {0}). ‵ (lasts (g.ended T) κs (a.0, tt) ws) ⊛ ‵ (LendsOwned (f.T-row T) a.0 r) ⊛ raw (fact 𝓤 (IfSome r (λ s. s.now ≡ a.0.now.value))))))) (id⊢ 𝓤 _) $
    await ! tt $ pick ! (elim [
      | None ↦ split ! $ split ! $ move ! (1 ∷ []) $ fpick ! (λ us. fsplit ! $ feq_l ! (λ e. fpick ! (λ vss. fsplit ! $ feq_l ! (λ e'. drop ! $
          let is : v ≡ live 0 (of_list []) = ap only e ∙ ap (λ ws. live 0 (of_list ws)) e' in
          move ! (1 ∷ []) $ pick ! (λ ws. split3 ! $ drop ! $ move ! (1 ∷ []) $ drop ! $
          -- [the final value of the storage; the tokens; the locals]
          lands_as ! is refl (tt, (record { fits = lit< tt }, tt)) $ first ! $ switches_on ! (get_tag ! (vrt ! refl (fld ! refl (stop !))) (whole !)) $
          exec ! 𝓣.C 𝓣.Λ En (arm_body 1 matches) Then $ sets_last ! (agg ! (and_then ! (lit ! tt) (no_more !))) refl (tt, (record { fits = lit< tt }, tt)) $
          exec ! 𝓣.C 𝓣.Λ En (after 3 (function T).body) (at_ret En (W.post y)) $ sets ! (of_opd ! (get ! refl)) refl (tt, (record { fits = lit< tt }, tt)) $
          returns ! (look_at ! 0 refl) $ free_all ! refl $
          use0 𝓛 (‵ ((OP.the_row Lent).own_val None (live 0 (of_list []) ∷ []))) (none_of 𝓛 Lent) $
          suffices ! _ (ends_at 𝓛 (f.ended T) (stayed T) c y (live 0 (of_list [])) None (tt, (tt, (tt, tt))) (tt, (tt, (tt, tt)))) $
          nothing ! $ nothing ! $ fjoin ! $ nothing ! $ fjoin ! $ nothing ! $ fjoin ! $ join ! $ move ! (2 ∷ 0 ∷ []) $ join ! $ frame ! $ says ! tt $ done !)))))
      | Some r ↦ split ! $ split ! $ move ! (1 ∷ []) $ fpick ! (λ us. fsplit ! $ feq_l ! (λ e. fpick ! (λ vss. fsplit ! $ feq_l ! (λ e'. fsplit ! $ fsplit ! $ feq_l ! (λ e''.
          let is : v ≡ live 1 (of_list (vptr r.ref_ptr.0 r.ref_ptr.1 ∷ [])) = ap only e ∙ ap (λ ws. live 1 (of_list ws)) (e' ∙ ap (λ ws. ws ++ []) e'') in
          feq_i ! (List Val) (mut_vals r) (mut_vals r) refl $ fjoin ! $ move ! (1 ∷ []) $ drop ! $ move ! (2 ∷ []) $ pick ! (λ ws. split3 ! $ drop ! $ move ! (1 ∷ []) $ heard ! _ (λ same.
          -- [how the shared storage follows the storage; the reference to the storage; the tokens; the locals]
          lands_as ! is refl (tt, (record { fits = lit< tt }, (tt, tt))) $ first ! $ switches_on ! (get_tag ! (vrt ! refl (fld ! refl (stop !))) (whole !)) $
          exec ! 𝓣.C 𝓣.Λ En (arm_body 0 matches) Then $
          sets ! (of_opd ! (get_in ! (vrt ! refl (fld ! refl (stop !))) (in_variant ! 1 0 refl refl (whole !)))) refl (tt, tt) $
          sets ! (addr ! (through ! refl (stop !))) refl (tt, tt) $
          let G' = triple_of 𝓛 (h.signature T) (h.spec T 𝓛 𝓜.mem 𝓡.returns) in
          let z' : G'.Ghost = ((κs, qs, bounds, (r, (start, (end, tt))), (mut_vals r, (uint_vals Syntax.w64 start, (uint_vals Syntax.w64 end, tt)))), tt) in
          let Within' : Type 0 = end ≤ length r.now in let within' : Within' = subst (λ (items : List T.Denot). end ≤ length items) (sym same) within in
          nothing ! $ owned ! usize _ (uint_Makes 𝓛 Syntax.w64) end _ (refl, are.1.1.0.1) $ fjoin ! $ owned ! usize _ (uint_Makes 𝓛 Syntax.w64) start _ (refl, are.1.0.1) $ fjoin ! $ move ! (2 ∷ 0 ∷ []) $ fjoin ! $ move ! (2 ∷ 0 ∷ []) $ join ! $
          use0 𝓛 (raw (fact 𝓤 Within')) (fact_i 𝓤 Within' (emp 𝓤) within') $ use0 𝓛 (raw (fact 𝓤 Order)) (fact_i 𝓤 Order (emp 𝓤) order) $ join ! $ use0 𝓛 (raw (fact 𝓤 Lives)) (fact_i 𝓤 Lives (emp 𝓤) lives) $ join ! $ move ! (1 ∷ 0 ∷ []) $ join ! $
          use1 𝓛 (raw (G'.pre z')) (id⊢ 𝓤 _) $
          calls_at ! (framed 𝓤 𝓛.H 𝓜 (tables 𝓤 𝓛.H 𝓜 𝓡 𝓡.env)) G' (h_met.met 𝓤 𝓛 𝓜 𝓡 (code.calls-arrow2_buffer::bytes::Bytes::part_mut 𝓡.env wired) T laws) z'
          (and_then ! (get ! refl) (and_then ! (get ! refl) (and_then ! (get ! refl) (no_more !)))) (λ v'.
          use1 𝓛 (later (some (λ (s : MutBor (List T.Denot)). (Tokens ⊛ ‵ (Lent.own_val s (v' ∷ []))) ⊛
          some (λ (ws' : Unit {0} × (Unit {0} × (Unit {0} × Unit {0}))). ‵ (lasts (h.ended T) κs (r, (start, (end, tt))) ws') ⊛ ‵ (LendsPart (f.T-row T) r start s) ⊛ raw (fact 𝓤 (s.now ≡ part r.now start (end - start))) ⊛ raw (fact 𝓤 (length s.now ≡ end - start)))))) (id⊢ 𝓤 _) $
          await ! tt $ pick ! (λ s. split ! $ split ! $ move ! (2 ∷ []) $ pick ! (λ ws'. split3 ! $ drop ! $ move ! (1 ∷ []) $ split ! $ heard ! _ (λ value. drop ! $
          -- [how the storage follows the part; the tokens; the part; how the shared storage follows the storage; the
          -- locals]
          move ! (3 ∷ 0 ∷ []) $
          use2 𝓛 (‵ (follows (shared_row (f.T-row T)) (Array (f.T-row T) 0) a.0.ghost_name s.ghost_name (λ w. rc_with_value a.0.now (overwrite_lent r.now start w))))
          (follows_then 𝓛 (shared_row (f.T-row T)) (stored.the_row (f.T-row T)) (Array (f.T-row T) 0) (rc_with_value a.0.now) (overwrite_lent r.now start) a.0.ghost_name r.ghost_name s.ghost_name) $
          rewrite ! 0 (λ (items : List T.Denot). ‵ (follows (shared_row (f.T-row T)) (Array (f.T-row T) 0) a.0.ghost_name s.ghost_name (λ w. rc_with_value a.0.now (overwrite_lent items start w)))) same refl $
          move ! (2 ∷ []) $ peeks ! Lent _ (shows 𝓛 Lent) s (v' ∷ []) (λ is'.
          let spare : Room (f.T-row T) (length s.now) = is'.0.1 in
          let lent : Val = slice_val s.ref_ptr (length s.now) in
          let there : v' ≡ lent = ap only is'.0.0 in
          rewrite ! 0 (λ (u : Val). ‵ (Lent.own_val s (u ∷ []))) there refl $ lands_as ! there refl (tt, (tt, (record { fits = spare.0 }, tt))) $
          sets_last ! (agg ! (and_then ! (lit ! tt) (and_then ! (get ! refl) (no_more !)))) refl (tt, (record { fits = lit< tt }, ((tt, (record { fits = spare.0 }, tt)), tt))) $
          exec ! 𝓣.C 𝓣.Λ En (after 3 (function T).body) (at_ret En (W.post y)) $ sets ! (of_opd ! (get ! refl)) refl (tt, (record { fits = lit< tt }, ((tt, (record { fits = spare.0 }, tt)), tt))) $
          returns ! (look_at ! 0 refl) $ free_all ! refl $
          use1 𝓛 (‵ ((OP.the_row Lent).own_val (Some s) (live 1 (of_list (lent ∷ [])) ∷ []))) (Some-of 𝓛 Lent s lent) $
          suffices ! _ (ends_at 𝓛 (f.ended T) (stayed T) c y (live 1 (of_list (lent ∷ []))) (Some s) (tt, (tt, (tt, tt))) (tt, (tt, (tt, tt)))) $
          nothing ! $ nothing ! $ fjoin ! $ nothing ! $ fjoin ! $ nothing ! $ fjoin ! $ join ! $ move ! (2 ∷ 0 ∷ []) $ join ! $ frame ! $ says ! (value ∙ ap (λ (items : List T.Denot). part items start (end - start)) same) $ done !))))))))))))
    ])))))))
