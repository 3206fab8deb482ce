-- A `&mut [T]` is lent on as a part of itself. Assumes `Logic`.
use mathlib.Core.Path.{◌≡◌, refl, sym, ap, ◌∙◌}
use Prim.Native.Nat.{ℕ, ◌+◌}
use native.Mathlib.Omega.{arith}
use mathlib.Core.List.{List, [], ◌∷◌, ◌++◌}
use lib.ListN.{length, length-append}
use seplogic.Ra.Ura.{Ura}
use mir.Syntax.{Lifetime}
use mir.Val.{Val}
use base.Logic.{SProp, ent, sep, ex}
use base.Stored.{coded_list}
use base.Fml.{Lft, GName, Share, flft, fobs, fbor}
use types.Logic.{Logic, sem}
use types.Kit.{Item, ‵, ◌⊛◌, ◌$◌, ◌∵◌, !, qed, move, drop, fsplit, fsplit3, fjoin, updating, await, later, some, use1, use2, group, pick, now, show, done, split, split3, join, rewrite, feq_l, feq_i}
use types.SemTy.{cells, Arr, Body}
use types.Follow.{takes_part}
use types.Mut.{open_ref}
use denote.RattleType.{RattleType}
use denote.Memory.{mem}
use denote.Array.{Array}
use denote.Slice.{MutSlice, Room, slice_val}
use denote.Follow.{follows}
use denote.FollowSlice.{heres_id, slice_of}
use borrow.Table.Elements.{at, cut_app, join_app}

module _ {M : Type 1} {𝓤 : Ura M} (𝓛 : Logic 𝓤) (ℓ : Lifetime) (κ : Lft) (q : Share) (b o : ℕ) (γ : GName) (R : RattleType) (xs front mid back : List R.Denot) (cut : xs ≡ front ++ (mid ++ back)) (p : ℕ) (on : at o (mem R).size (length front) ≡ p) (rm : Room R (length mid))
    (F : List R.Denot → List R.Denot) (around : (ws : List R.Denot) → length ws ≡ length mid → front ++ (ws ++ back) ≡ F ws) where
  open 𝓛 use {H, A}

  -- the part under a new name, the token, and the final value of the slice
  abbrev pub part_lent : GName → Item 𝓤
  part_lent δ = ‵ ((MutSlice ℓ κ R).own_val (record { ref_ptr = (b, p); ghost_name = δ; now = mid }) (slice_val (b, p) (length mid) ∷ [])) ⊛ ‵ (flft κ q) ⊛ ‵ (follows (Array R 0) (Array R 0) γ δ F)

  abbrev pub PartLent : GName → SProp 𝓤
  PartLent δ = sep 𝓤 (sem 𝓛 ((MutSlice ℓ κ R).own_val (record { ref_ptr = (b, p); ghost_name = δ; now = mid }) (slice_val (b, p) (length mid) ∷ []))) (sep 𝓤 (A.lft κ q) (sem 𝓛 (follows (Array R 0) (Array R 0) γ δ F)))

  abbrev Others : SProp 𝓤
  Others = sep 𝓤 (sem 𝓛 (cells (mem R) front b o)) (sem 𝓛 (cells (mem R) back b (at p (mem R).size (length mid))))

  put_part : (ws : List R.Denot) → ent 𝓤 (sep 𝓤 (sem 𝓛 ((Arr (mem R) (length mid)).own_at ws b p)) Others) (sem 𝓛 ((Arr (mem R) (length xs)).own_at (F ws) b o))
  put_part ws = qed 𝓛 (‵ ((Arr (mem R) (length mid)).own_at ws b p) ∷ ‵ (cells (mem R) front b o) ∷ ‵ (cells (mem R) back b (at p (mem R).size (length mid))) ∷ []) ∵
      fsplit ! $ feq_l ! (λ e.
      let whole : length xs ≡ length front + length (mid ++ back) = ap length cut ∙ length-append front (mid ++ back) in
      let inner : length (mid ++ back) ≡ length mid + length back = length-append mid back in
      let now_whole : length (front ++ (ws ++ back)) ≡ length front + length (ws ++ back) = length-append front (ws ++ back) in
      let now_inner : length (ws ++ back) ≡ length ws + length back = length-append ws back in
      let same : length (F ws) ≡ length (front ++ (ws ++ back)) = ap length (sym (around ws e)) in
      rewrite ! 2 (λ (k : ℕ). ‵ (cells (mem R) back b (at p (mem R).size k))) (sym e) refl $ move ! (0 ∷ 2 ∷ []) $
      use2 𝓛 (‵ (cells (mem R) (ws ++ back) b p)) (join_app 𝓛 (mem R) ws back b p) $
      rewrite ! 0 (λ (k : ℕ). ‵ (cells (mem R) (ws ++ back) b k)) (sym on) refl $ move ! (1 ∷ 0 ∷ []) $
      use2 𝓛 (‵ (cells (mem R) (front ++ (ws ++ back)) b o)) (join_app 𝓛 (mem R) front (ws ++ back) b o) $
      rewrite ! 0 (λ (l : List R.Denot). ‵ (cells (mem R) l b o)) (around ws e) refl $
      feq_i ! ℕ (length (F ws)) (length xs) (omega arith) $ fjoin ! $ done !)

  pub lends_part : (vs : List Val)
      → ent 𝓤 (sep 𝓤 (sem 𝓛 ((MutSlice ℓ κ R).own_val (record { ref_ptr = (b, o); ghost_name = γ; now = xs }) vs)) (A.lft κ q)) (H.⇛ (ex 𝓤 PartLent))
  lends_part vs = qed 𝓛 (‵ ((MutSlice ℓ κ R).own_val (record { ref_ptr = (b, o); ghost_name = γ; now = xs }) vs) ∷ ‵ (flft κ q) ∷ []) ∵ updating ! $ fsplit3 ! $ drop ! $
      rewrite ! 0 (λ (l : List R.Denot). ‵ (fobs γ ((coded_list R.coded).code l))) (heres_id R xs) refl $ open_ref ! tt (Arr (mem R) (length xs)) {b = b} {o = o} $ fsplit ! $ drop ! $
      rewrite ! 0 (λ (l : List R.Denot). ‵ (cells (mem R) l b o)) cut refl $
      use1 𝓛 (‵ (cells (mem R) front b o) ⊛ ‵ (cells (mem R) (mid ++ back) b (at o (mem R).size (length front)))) (cut_app 𝓛 (mem R) front (mid ++ back) b o) $ split ! $ move ! (1 ∷ []) $
      rewrite ! 0 (λ (k : ℕ). ‵ (cells (mem R) (mid ++ back) b k)) on refl $
      use1 𝓛 (‵ (cells (mem R) mid b p) ⊛ ‵ (cells (mem R) back b (at p (mem R).size (length mid)))) (cut_app 𝓛 (mem R) mid back b p) $ split ! $
      feq_i ! ℕ (length mid) (length mid) refl $ fjoin ! $ move ! (2 ∷ 1 ∷ []) $ join ! $ move ! (2 ∷ 3 ∷ 4 ∷ 1 ∷ 0 ∷ []) $ group ! 5 $
      use1 𝓛 (later (some (λ (δ : GName). ‵ (fobs δ ((coded_list R.coded).code mid)) ⊛ ‵ (fbor κ (Body (Arr (mem R) (length mid)) b p δ)) ⊛ ‵ (flft κ q) ⊛ ‵ (follows (Array R 0) (Array R 0) γ δ F))))
      (takes_part 𝓛 (Arr (mem R) (length xs)) (Arr (mem R) (length mid)) F κ q b o b p γ Others put_part ((coded_list R.coded).code xs) ((coded_list R.coded).code xs) mid) $ await ! tt $ pick ! (λ δ. split3 ! $
      use2 𝓛 (‵ ((MutSlice ℓ κ R).own_val (record { ref_ptr = (b, p); ghost_name = δ; now = mid }) (slice_val (b, p) (length mid) ∷ []))) (slice_of 𝓛 R ℓ κ b p δ mid rm) $ now ! $ show ! PartLent δ $ done !)
