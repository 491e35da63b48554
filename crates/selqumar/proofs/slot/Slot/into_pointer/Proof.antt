-- `into_pointer` gives the pointer its type again.
use Rattle.selqumar.specs.contracts.slot.Slot as slot
use Rattle.selqumar.specs.contracts.slot.Slot.into_pointer as f
use Rattle.selqumar.proofs.slot.Slot.into_pointer.Statement.{statement}
use Rattle.selqumar.proofs.slot.Slot.into_pointer.Code as code
use Rattle.selqumar.proofs.Walks.{◌≡◌, ◌≢◌, List, [], ◌∷◌, ◌++◌, refl, sym, subst, Val, SProp, ent, emp, id⊢, WpFn, fact, fact_i, tables, ‵, raw, ◌⊛◌, ◌$◌, ◌∵◌, !, qed, by, move, keep, split, fsplit, fjoin, suffices, use0, use1, rewrite, stop, fld, of_opd, no_more, and_then, returns, enter, alloc_all, pass_all, free_all, look_at, get, get_in, sets, agg, sub, whole, yes, RattleType, owns, types_at, plain, nothing, heard, alive, Stays, stay_dropped, walk_of, Goes-dropped, Option, None, Some, proved_at, leaves, is_boxed, owned_at, Pointee, pointee_row, one, one_good, pointer_good, one_out, one_in, some_of}

pub into_pointer_spec : {M : Type 1} → statement M
into_pointer_spec 𝓤 𝓛 𝓜 𝓡 wired =
    let H = 𝓛.H in let 𝓣 = tables 𝓤 H 𝓜 𝓡 𝓡.env in let En = f.ended in let c = f.clauses 𝓛 𝓜.mem 𝓡.returns in let fn = code.function in
    let S : RattleType = slot.the_row in let hs : Stays En.signature.params En.kept = (stay_dropped (plain (λ _. S)) yes, tt) in
    proved_at 𝓛 En hs c 𝓜 𝓡 (Goes-dropped 𝓛 0 (plain (λ _. S)) yes (λ κs x f. refl), tt) f.Key.name fn (code.unfolded 𝓤 H 𝓜 𝓡 wired) (λ z are.
    let κs = z.0.0 in let s = z.0.3.0 in let p = s.pointer in
    let Post : Val → SProp 𝓤 = (walk_of 𝓛 En hs c).post z in let Run : List Val → SProp 𝓤 = λ ws. WpFn 𝓤 H 𝓣.C 𝓣.Λ fn ws Post in
    qed 𝓛 ((raw (alive 𝓛 En.signature κs z.0.1) ⊛ ‵ (owns (types_at En.signature.params κs) z.0.3 z.0.4)) ∷ raw (fact 𝓤 (s.pointee ≢ None)) ∷ []) ∵
    move ! (1 ∷ []) $ heard ! (s.pointee ≢ None) (λ there. let x = some_of s.pointee there in split ! $ move ! (1 ∷ []) $ fsplit ! $ fsplit ! $ one_out ! p z.0.4.0 (λ is.
    rewrite ! 0 (λ (t : Option Pointee). ‵ (owned_at p t)) x.1 refl $
    suffices ! (Run (one p ∷ [])) (subst (λ (us : List Val). ent 𝓤 (Run (one p ∷ [])) (Run us)) (sym (λ i. is i ++ [])) (id⊢ 𝓤 (Run (one p ∷ [])))) $
    enter ! 𝓣.C 𝓣.Λ fn (one p ∷ []) Post $ alloc_all ! (λ l. pass_all ! refl (one_good p, tt) $
    sets ! (of_opd ! (get_in ! (fld ! refl (stop !)) (sub ! 0 refl (whole !)))) refl (pointer_good p) $ sets ! (of_opd ! (get ! refl)) refl (pointer_good p) $
    sets ! (agg ! (and_then ! (get ! refl) (no_more !))) refl (one_good p) $ use1 𝓛 (‵ (is_boxed pointee_row p x.0)) (id⊢ 𝓤 _) $ one_in ! p $ fjoin ! $
    use0 𝓛 (raw (fact 𝓤 (s.pointee ≡ Some x.0))) (fact_i 𝓤 (s.pointee ≡ Some x.0) (emp 𝓤) x.1) $ nothing ! $ nothing ! $ fjoin ! $
    -- [what is left of the parameter; the fact; the pointer's owner; nothing; the tokens]
    returns ! (look_at ! 0 refl) $ free_all ! refl $ keep ! (4 ∷ 0 ∷ 2 ∷ 1 ∷ []) $ by ! (leaves 𝓛 En hs c z (one p) (record { pointer = p; value = x.0 }) (_, tt) (tt, tt))))))
