-- Why a query's text has no answer, by what its reader and its answer say.
use Rattle.std.proofs.Common.{◌≡◌, ◌⊎◌, inl, inr, ℕ, List, Err, subst, sym}
use Rattle.std.specs.Prelude.{IsOk}
use Rattle.shared.specs.Prelude.{IsRefusal, NoMemory, QueryFault, QueryShape, resolved}
use Rattle.arrays.specs.Prelude.{FieldShape, Table}
use Rattle.arrow_json.specs.Prelude.{ReadsQueryText}
use Rattle.selqumar_core.specs.Asked.{ReadsPlaced, IsAskRefusal, at_row, under_fields}

pub refused_by_fields : (bytes : List ℕ) (fields : List FieldShape) (t : Table) (query : QueryShape (List ℕ)) (f : QueryFault) → ReadsQueryText bytes query
    → (resolved fields query ≡ Err f) ⊎ ((f ≡ NoMemory) × IsOk (resolved fields query)) → (f ≡ NoMemory → ⊥) → IsAskRefusal bytes fields t f
refused_by_fields bytes fields t query f reads (inl under) some = under_fields query f reads under
refused_by_fields bytes fields t query f reads (inr wants) some = absurd (some wants.0)

pub refused_at_row : (bytes : List ℕ) (fields : List FieldShape) (t : Table) (placed : QueryShape ℕ) (f : QueryFault) → ReadsPlaced bytes fields placed → IsRefusal fields placed t f → (f ≡ NoMemory → ⊥)
    → IsAskRefusal bytes fields t f
refused_at_row bytes fields t placed f is (inl bad) some = subst (IsAskRefusal bytes fields t) (sym bad.2) (at_row placed bad.0 is bad.1)
refused_at_row bytes fields t placed f is (inr wants) some = absurd (some wants)
