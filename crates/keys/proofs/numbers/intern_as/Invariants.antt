use Rattle.std.proofs.Common.{◌≡◌, take}
use Rattle.keys.specs.Prelude.{AreIds, Remembers, keys_at, with_keys}
use Rattle.keys.proofs.numbers.intern_as.Given as goal

-- The rows so far have their numbers, and what is remembered is true.
abbrev pub invariant-loop-row : goal.invariant-loop-row
invariant-loop-row g l =
    (l.keys ≡ with_keys l.initial.keys (keys_at l.columns.by.now l.columns.batch.now.columns (take l.row-index l.rows)))
    × AreIds l.keys (keys_at l.columns.by.now l.columns.batch.now.columns (take l.row-index l.rows)) l.ids.items
    × Remembers l.keys l.memo
    × (l.memo.entries ≡ l.initial.memo.entries)
