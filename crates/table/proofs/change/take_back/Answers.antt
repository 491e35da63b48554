use Rattle.std.proofs.Common.{◌∙◌, ◌≤◌, List, Option, length, ap, map, subst, sym}
use Rattle.std.specs.List.{AllZip, zip}
use Rattle.std.specs.declared.alloc.Global.{Global}
use Rattle.std.specs.declared.sync.Arc.{Arc}
use Rattle.arrays.specs.Prelude.{Seen}
use Rattle.table.specs.Recoded.{entry_count, shortened}
use Rattle.table.proofs.BackLemmas.{back-count, back-same, back-within}
use Rattle.table.proofs.change.take_back.Goals as goal

pub cut_back-requires-clause-count : goal.cut_back-requires-clause-count
cut_back-requires-clause-count c =
    ap (λ (l : List (Option (Arc Seen Global))). length l) c.deref.ensures.value ∙ back-count c.args.storage.now c.requires.storage c.args.pools.now.items c.requires.begun

pub cut_back-requires-clause-within : goal.cut_back-requires-clause-within
cut_back-requires-clause-within c =
    subst (λ (l : List (Option (Arc Seen Global))). AllZip (λ d pool. entry_count d ≤ length pool) l c.args.pools.now.items) (sym c.deref.ensures.value)
    (back-within c.args.storage.now c.requires.storage c.args.pools.now.items c.requires.begun)

pub returns : goal.returns
returns c =
    c.cut_back.ensures
    ∙ ap (λ (l : List (Option (Arc Seen Global))). map shortened (zip l c.args.pools.now.items)) c.deref.ensures.value
    ∙ back-same c.args.storage.now c.requires.storage c.args.pools.now.items c.requires.begun
