use Rattle.std.proofs.Common.{◌≡◌, map, drop}
use Rattle.types.specs.First.{first}
use Rattle.query.specs.FirstFault.{key_fault}
use Rattle.query.proofs.kinds.check_keys.Given as goal

-- the first fault is that of the keys that are left
abbrev pub invariant-loop-column : goal.invariant-loop-column
invariant-loop-column g l =
    first (map (key_fault (g.C.Column.sort_in l.schema)) l.by)
    ≡ first (map (key_fault (g.C.Column.sort_in l.schema)) (drop l.column-index l.by))
