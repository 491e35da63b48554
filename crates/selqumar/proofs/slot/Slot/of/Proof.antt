-- `of` gives the pointer another type.
use Rattle.selqumar.specs.contracts.boxed.BoxPointer as pointer
use Rattle.selqumar.specs.contracts.slot.Slot.of as f
use Rattle.selqumar.proofs.slot.Slot.of.Statement.{statement}
use Rattle.selqumar.proofs.slot.Slot.of.Code as code
use Rattle.selqumar.proofs.Walks.{◌≡◌, List, [], ◌∷◌, ◌++◌, refl, sym, subst, Val, SProp, ent, emp, id⊢, WpFn, fact, fact_i, tables, ‵, raw, ◌⊛◌, ◌$◌, ◌∵◌, !, qed, by, move, keep, split, fsplit, fjoin, suffices, use0, use1, stop, fld, of_opd, no_more, and_then, returns, enter, alloc_all, pass_all, free_all, look_at, get, get_in, sets, agg, sub, whole, yes, RattleType, owns, types_at, plain, nothing, alive, Stays, stay_dropped, walk_of, Goes-dropped, Option, Some, proved_at, leaves, owned_at, Pointee, pointee_row, one, one_good, pointer_good, one_out, one_in}

pub of_spec : {M : Type 1} → statement M
of_spec 𝓤 𝓛 𝓜 𝓡 wired =
    let H = 𝓛.H in let 𝓣 = tables 𝓤 H 𝓜 𝓡 𝓡.env in let En = f.ended in let c = f.clauses 𝓛 𝓜.mem 𝓡.returns in let fn = code.function in
    let K : RattleType = pointer.the_row pointee_row in let hs : Stays En.signature.params En.kept = (stay_dropped (plain (λ _. K)) yes, tt) in
    proved_at 𝓛 En hs c 𝓜 𝓡 (Goes-dropped 𝓛 0 (plain (λ _. K)) yes (λ κs x f. refl), tt) f.Key.name fn (code.unfolded 𝓤 H 𝓜 𝓡 wired) (λ z are.
    let κs = z.0.0 in let v = z.0.3.0 in let p = v.pointer in let x : Option Pointee = Some v.value in
    let Post : Val → SProp 𝓤 = (walk_of 𝓛 En hs c).post z in let Run : List Val → SProp 𝓤 = λ ws. WpFn 𝓤 H 𝓣.C 𝓣.Λ fn ws Post in
    qed 𝓛 ((raw (alive 𝓛 En.signature κs z.0.1) ⊛ ‵ (owns (types_at En.signature.params κs) z.0.3 z.0.4)) ∷ raw ((c κs z.0.3).requires z.1) ∷ []) ∵
    split ! $ move ! (1 ∷ []) $ fsplit ! $ fsplit ! $ one_out ! p z.0.4.0 (λ is.
    suffices ! (Run (one p ∷ [])) (subst (λ (us : List Val). ent 𝓤 (Run (one p ∷ [])) (Run us)) (sym (λ i. is i ++ [])) (id⊢ 𝓤 (Run (one p ∷ [])))) $
    enter ! 𝓣.C 𝓣.Λ fn (one p ∷ []) Post $ alloc_all ! (λ l. pass_all ! refl (one_good p, tt) $
    sets ! (of_opd ! (get_in ! (fld ! refl (stop !)) (sub ! 0 refl (whole !)))) refl (pointer_good p) $ sets ! (of_opd ! (get ! refl)) refl (pointer_good p) $
    sets ! (agg ! (and_then ! (get ! refl) (no_more !))) refl (one_good p) $ use1 𝓛 (‵ (owned_at p x)) (id⊢ 𝓤 _) $ one_in ! p $ fjoin ! $
    use0 𝓛 (raw (fact 𝓤 (x ≡ x))) (fact_i 𝓤 (x ≡ x) (emp 𝓤) refl) $ nothing ! $ nothing ! $ fjoin ! $
    -- [what is left of the parameter; the fact; the slot; nothing; the tokens]
    returns ! (look_at ! 0 refl) $ free_all ! refl $ keep ! (4 ∷ 0 ∷ 2 ∷ 1 ∷ []) $ by ! (leaves 𝓛 En hs c z (one p) (record { pointer = p; pointee = x }) (_, tt) (tt, tt)))))
