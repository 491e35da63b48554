-- `empty` makes a slot of nothing.
use Rattle.selqumar.specs.contracts.slot.Slot.empty as f
use Rattle.selqumar.proofs.slot.Slot.empty.Statement.{statement}
use Rattle.selqumar.proofs.slot.Slot.empty.Code as code
use Rattle.selqumar.proofs.Walks.{◌≡◌, [], ◌∷◌, refl, Val, SProp, emp, fact, fact_i, tables, ‵, raw, ◌⊛◌, ◌$◌, ◌∵◌, !, qed, by, keep, split, fjoin, use0, lit, no_more, and_then, returns, enter, alloc_all, pass_all, free_all, look_at, sets, agg, owns, null_ptr, types_at, nothing, alive, walk_of, Option, None, proved_at, leaves, Pointee, one, one_good, one_in}

pub empty_spec : {M : Type 1} → statement M
empty_spec 𝓤 𝓛 𝓜 𝓡 wired =
    let H = 𝓛.H in let 𝓣 = tables 𝓤 H 𝓜 𝓡 𝓡.env in let En = f.ended in let c = f.clauses 𝓛 𝓜.mem 𝓡.returns in let fn = code.function in let none : Option Pointee = None in
    proved_at 𝓛 En tt c 𝓜 𝓡 tt f.Key.name fn (code.unfolded 𝓤 H 𝓜 𝓡 wired) (λ z are. let κs = z.0.0 in let Post : Val → SProp 𝓤 = (walk_of 𝓛 En tt c).post z in
    qed 𝓛 ((raw (alive 𝓛 En.signature κs z.0.1) ⊛ ‵ (owns (types_at En.signature.params κs) z.0.3 z.0.4)) ∷ raw ((c κs z.0.3).requires z.1) ∷ []) ∵ split ! $
    enter ! 𝓣.C 𝓣.Λ fn [] Post $ alloc_all ! (λ l. pass_all ! refl tt $
    sets ! (agg ! (and_then ! (lit ! tt) (no_more !))) refl (one_good null_ptr) $ nothing ! $ one_in ! null_ptr $ fjoin ! $
    use0 𝓛 (raw (fact 𝓤 (none ≡ none))) (fact_i 𝓤 (none ≡ none) (emp 𝓤) refl) $ nothing ! $
    -- [nothing is left of parameters; the fact; the slot; the tokens]
    returns ! (look_at ! 0 refl) $ free_all ! refl $ keep ! (3 ∷ 0 ∷ 2 ∷ 1 ∷ []) $ by ! (leaves 𝓛 En tt c z (one null_ptr) (record { pointer = null_ptr; pointee = none }) tt tt)))
