use Rattle.std.proofs.Common.{◌≡◌, ◌∙◌, ◌++◌, [], ◌∷◌, ℕ, List, ap, subst, sym}
use Rattle.std.specs.declared.alloc.Global.{Global}
use Rattle.std.specs.declared.vec.Vec.{Vec}
use Rattle.arrays.specs.Prelude.{field_of}
use Rattle.table.specs.Prelude.{BeginWithTexts, batches_of, rows_of_batches, stored_field}
use Rattle.table.proofs.JoinedLemmas.{texts-begin}
use Rattle.table.proofs.WiderLemmas.{added-storage}
use Rattle.table.proofs.state.TableState.widen.Goals as goal

pub commit-requires-clause-begun : goal.commit-requires-clause-begun
commit-requires-clause-begun g c =
    let h = c.self.inside.storage in
    subst (BeginWithTexts h (rows_of_batches (batches_of h))) (sym c.reserve.ensures.items) (texts-begin h (rows_of_batches (batches_of h)) c.self.inside.pools.items c.self.invariant.texts)

pub invariant_of-self-2 : goal.invariant_of-self-2
invariant_of-self-2 g c =
    let olds = c.self.inside.pools.items in
    let pushed : c.push_reserved.new.self.items ≡ olds ++ [] ∷ [] =
    c.push_reserved.ensures.items
    ∙ ap (λ (v : Vec (List (List ℕ)) Global). v.items ++ c.new.result ∷ []) c.in_ok-seen.ensures.pools
    ∙ ap (λ (l : List (List (List ℕ))). l ++ c.new.result ∷ []) c.reserve.ensures.items
    ∙ ap (λ (ts : List (List ℕ)). olds ++ ts ∷ []) c.new.ensures in
    let both =
    added-storage c.self.inside.storage c.in_ok-stage.field-0 c.commit.new.storage (stored_field (field_of c.args.field.now)) olds c.push_reserved.new.self.items c.self.invariant.storage c.self.invariant.texts
    c.in_ok-stage.ensures.lawful c.in_ok-stage.ensures.shows c.in_ok-seen.ensures.next pushed in record {
      storage = both.0;
      texts = both.1;
    }
