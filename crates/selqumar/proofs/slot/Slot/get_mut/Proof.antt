-- `get_mut` lends what is there; once the borrow ends, the slot holds it as it was left.
use Prim.Native.Nat.{ℕ}
use base.Fraction.{full_share}
use denote.Follow.{follows, Part, lends_Part}
use denote.Memory.{part_at, part_of, cell_at, mem, lone}
use denote.Ref.{MutRef, mut_vals, mut_Tells}
use Rattle.selqumar.specs.declared.slot.Slot.{Slot}
use Rattle.selqumar.specs.contracts.slot.Slot.{the_row as S}
use Rattle.selqumar.specs.contracts.slot.Slot.get_mut as f
use Rattle.selqumar.proofs.slot.Slot.get_mut.Statement.{statement}
use Rattle.selqumar.proofs.slot.Slot.get_mut.Code as code
use Rattle.selqumar.proofs.Walks.{◌≡◌, ◌≢◌, List, [], ◌∷◌, refl, sym, Ura, Fml, GName, ftrue, fsep, flft, named, bare, Val, vptr, SProp, ent, sep, id⊢, never, fst∗, Env, fact, tables, Logic, sem, ‵, raw, ◌⊛◌, some, later, at_ret, ◌$◌, ◌∵◌, !, qed, move, keep, drop, use1, split, join, pick, await, group, fsplit, fsplit3, fjoin, fpack, rewrite, suffices, frame, done, look_in, sub, whole, stop, fld, load, of_opd, addr, first, blocks, exec, returns, enter, alloc_all, pass_all, free_all, look_at, get, through, sets, sets_last, env, no, owns, Ptr, block_ptr, null_ptr, in_a_block, plain, mut_ref_to, opens, nothing, heard, Stays, stay_dropped, walk_of, Goes-spent_ref, says, ends_at, Option, None, ghosts, after, proved, is_boxed, owned_at, with_pointee, Pointee, pointee_row as T, one, some_of, one_out, one_in}

abbrev token : Ptr → Fml
token p = ghosts.dealloc_token (record { memory = record { seal = tt } }) (bare (lone T.mir)) p

module _ {M : Type 1} {𝓤 : Ura M} (𝓛 : Logic 𝓤) (d : Slot) (rb ro b o : ℕ) (at : d.pointer ≡ block_ptr b o) where
  -- all of the slot but what its pointer points to
  abbrev Rest : Fml
  Rest = fsep (token (block_ptr b o)) (cell_at full_share S.mir (one (block_ptr b o) ∷ []) rb ro)

  back : (w : Pointee) → ent 𝓤 (sep 𝓤 (sem 𝓛 ((mem T).own_at w b o)) (sem 𝓛 Rest)) (sem 𝓛 ((mem S).own_at (with_pointee d w) rb ro))
  unfolding part_of
  back w =
      qed 𝓛 (‵ (part_at T full_share w b o) ∷ ‵ Rest ∷ []) ∵ move ! (1 ∷ []) $ fsplit ! $ move ! (2 ∷ 0 ∷ []) $ fjoin ! $
      rewrite ! 0 (λ (p : Ptr). ‵ (is_boxed T p w)) (sym at) refl $ rewrite ! 1 (λ (p : Ptr). ‵ (cell_at full_share S.mir (one p ∷ []) rb ro)) (sym at) refl $
      one_in ! d.pointer $ fjoin ! $ move ! (1 ∷ 0 ∷ []) $ fjoin ! $
      fpack ! (List Val) (λ us. fsep (cell_at full_share S.mir us rb ro) (S.own_val (with_pointee d w) us)) (one d.pointer ∷ []) $ done !

pub get_mut_spec : {M : Type 1} → statement M
get_mut_spec 𝓤 𝓛 𝓜 𝓡 wired =
    let H = 𝓛.H in let 𝓣 = tables 𝓤 H 𝓜 𝓡 𝓡.env in let En = f.ended in let c = f.clauses 𝓛 𝓜.mem 𝓡.returns in let fn = code.function in
    let hs : Stays En.signature.params En.kept = (stay_dropped (mut_ref_to (0 ∷ []) tt (plain (λ _. S))) no, tt) in
    let W = walk_of 𝓛 En hs c in
    proved 𝓛 En hs c 𝓜 𝓡 (Goes-spent_ref 𝓛 1 (0 ∷ []) tt (plain (λ _. S)), tt) f.Key.name fn (code.unfolded 𝓤 H 𝓜 𝓡 wired)
    (λ κs. (mut_vals, tt)) (λ κs. (mut_Tells (named 0) κs.0 S, tt)) (λ κs qs bounds a g are.
    let κ = κs.0 in let q = qs.0 in let s = a.0 in let d : Slot = s.now in let γ = s.ghost_name in let rb = s.ref_ptr.0 in let ro = s.ref_ptr.1 in
    let y : W.Ghost = ((κs, qs, bounds, a, (vptr rb ro ∷ [], tt)), tt) in let Post : Val → SProp 𝓤 = W.post y in
    qed 𝓛 (((‵ (flft κ q) ⊛ ‵ ftrue) ⊛ ‵ (owns (MutRef (named 0) κ S ∷ []) (s, tt) (vptr rb ro ∷ [], tt))) ∷ raw (fact 𝓤 (d.pointee ≢ None)) ∷ []) ∵
    move ! (1 ∷ []) $ heard ! (d.pointee ≢ None) (λ there. let x = some_of d.pointee there in
    enter ! 𝓣.C 𝓣.Λ fn (vptr rb ro ∷ []) Post $ alloc_all ! (λ l. pass_all ! refl ((tt, tt), tt) $ let Ev : Env 𝓤 H = env fn.locals l in
    split ! $ move ! (1 ∷ []) $ fsplit ! $ fsplit3 ! $ drop ! $ move ! (3 ∷ []) $ split ! $ move ! (2 ∷ 3 ∷ 0 ∷ []) $
    opens ! tt S {h = d} rb ro (λ vs. move ! (1 ∷ []) $ fsplit ! $ one_out ! d.pointer vs (λ is.
    rewrite ! 0 (λ (t : Option Pointee). ‵ (owned_at d.pointer t)) x.1 refl $
    in_a_block ! d.pointer (λ p. is_boxed T p x.0) (fst∗ 𝓤 (never 𝓤) (sem 𝓛 (token null_ptr))) (λ b o at. fsplit ! $
    -- [what is there; the token; the slot's words; the open borrow; obs; auth; ..]
    rewrite ! 2 (λ (us : List Val). ‵ (cell_at full_share S.mir us rb ro)) is refl $ rewrite ! 2 (λ (p : Ptr). ‵ (cell_at full_share S.mir (one p ∷ []) rb ro)) at refl $
    sets ! (of_opd ! (load ! (through ! refl (fld ! refl (stop !))) (look_in ! 2 (sub ! 0 refl (whole !))))) refl (tt, tt) $ sets ! (of_opd ! (get ! refl)) refl (tt, tt) $
    first ! $ blocks ! $ sets_last ! (addr ! (through ! refl (stop !))) refl (tt, tt) $ exec ! 𝓣.C 𝓣.Λ Ev (after 3 fn.body) (at_ret Ev Post) $ sets ! (of_opd ! (get ! refl)) refl (tt, tt) $
    move ! (1 ∷ 2 ∷ []) $ fjoin ! $ move ! (2 ∷ 3 ∷ 4 ∷ 1 ∷ 0 ∷ []) $ group ! 5 $
    use1 𝓛 (later (some (λ (γ' : GName). raw (Part 𝓛 S T (with_pointee d) (named 0) κ q rb ro b o γ (sem 𝓛 (Rest 𝓛 d rb ro b o at)) (back 𝓛 d rb ro b o at) x.0 γ'))))
    (lends_Part 𝓛 S T (with_pointee d) (named 0) κ q rb ro b o γ (sem 𝓛 (Rest 𝓛 d rb ro b o at)) (back 𝓛 d rb ro b o at) (S.coded.code d) (S.coded.code d) x.0) $ await ! tt $ pick ! (λ γ'.
    returns ! (look_at ! 0 refl) $ free_all ! refl $ keep ! (0 ∷ []) $
    use1 𝓛 (‵ ((MutRef (named 0) κ T).own_val (record { ref_ptr = (b, o); ghost_name = γ'; now = x.0 }) (vptr b o ∷ [])) ⊛ (‵ (flft κ q) ⊛ ‵ (follows S T γ γ' (with_pointee d)))) (id⊢ 𝓤 _) $ split ! $ move ! (1 ∷ []) $ split ! $ move ! (2 ∷ 0 ∷ 1 ∷ []) $
    suffices ! _ (ends_at 𝓛 En hs c y (vptr b o) (record { ref_ptr = (b, o); ghost_name = γ'; now = x.0 }) (tt, tt) (tt, tt)) $
    nothing ! $ nothing ! $ fjoin ! $ join ! $ nothing ! $ move ! (2 ∷ 0 ∷ []) $ join ! $ join ! $ frame ! $ says ! x.1 $ done !)))))))
