use Rattle.std.proofs.Common.{◌∙◌, ℕ, List, subst, sym}
use Rattle.std.specs.List.{AllZip}
use mathlib.Core.List.{IsPrefix}
use Rattle.table.proofs.admission.stage.Goals as goal

pub take_back-requires-clause-begun : goal.take_back-requires-clause-begun
take_back-requires-clause-begun c = subst (λ (l : List (List (List ℕ))). AllZip IsPrefix l c.recoded.new.pools.items) c.requires.pools c.recoded.ensures.begun

pub returns-in-Err-clause-kept : goal.returns-in-Err-clause-kept
returns-in-Err-clause-kept c = c.take_back.ensures ∙ sym c.requires.pools

pub returns-in-Ok-clause-begun : goal.returns-in-Ok-clause-begun
returns-in-Ok-clause-begun c = subst (λ (l : List (List (List ℕ))). AllZip IsPrefix l c.recoded.new.pools.items) c.requires.pools c.recoded.ensures.begun
