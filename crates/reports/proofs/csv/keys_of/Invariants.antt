use Rattle.std.proofs.Common.{◌≡◌, map, string_bytes, take}
use Rattle.reports.proofs.csv.keys_of.Given as goal

-- The names so far are those of the keys so far.
abbrev pub invariant-loop-key : goal.invariant-loop-key
invariant-loop-key l = map string_bytes l.names.items ≡ map string_bytes (take l.key-index l.keys)
