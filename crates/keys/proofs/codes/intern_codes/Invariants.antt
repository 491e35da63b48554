use Rattle.std.proofs.Common.{◌≡◌, take}
use Rattle.keys.specs.Prelude.{AreIds, Knows, Remembers, keys_at, with_keys}
use Rattle.keys.proofs.codes.intern_codes.Given as goal

-- The rows so far have their ids, and what is remembered is true.
abbrev pub invariant-loop-row : goal.invariant-loop-row
invariant-loop-row l =
    (l.keys ≡ with_keys l.initial.keys (keys_at l.columns.by.now l.columns.batch.now.columns (take l.row-index l.rows)))
    × AreIds l.keys (keys_at l.columns.by.now l.columns.batch.now.columns (take l.row-index l.rows)) l.ids.items
    × Remembers l.keys l.memo
    × Knows l.keys l.view.entries.items l.memo
