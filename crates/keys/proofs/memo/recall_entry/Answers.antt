use Rattle.std.proofs.Common.{◌∷◌, []}
use Rattle.std.specs.Prelude.{slice_index_or}
use Rattle.arrays.specs.Prelude.{null}
use Rattle.keys.proofs.MemoLemmas.{recalled}
use Rattle.keys.proofs.memo.recall_entry.Goals as goal

pub returns-in-Some : goal.returns-in-Some
returns-in-Some c = λ h.
    recalled c.args.keys.now (slice_index_or c.args.entries.now.items c.args.place null ∷ []) c.args.known.now c.in-Some.id c.in-Some.is h
