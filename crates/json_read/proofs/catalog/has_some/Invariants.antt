use Rattle.std.proofs.Common.{◌≡◌, ℕ, ◌<◌, map, Some, option_map}
use Rattle.std.specs.List.{slice_get}
use Rattle.json_read.specs.Prelude.{Encoding, parts_of}
use Rattle.json_read.proofs.catalog.has_some.Given as goal

-- none so far
abbrev pub invariant-loop-encoding : goal.invariant-loop-encoding
invariant-loop-encoding l = (i : ℕ) → i < l.encoding-index → (e : Encoding) → slice_get (map (option_map parts_of) l.encodings) i ≡ Some (Some e) → ⊥
