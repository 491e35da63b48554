use Rattle.std.proofs.Common.{◌≡◌, map, string_bytes}
use Rattle.std.specs.List.{range_with_len}
use Rattle.arrays.specs.Prelude.{fields_of}
use Rattle.results.specs.Result.{field_at}
use Rattle.results.proofs.result.result_fields.Given as goal

-- The fields so far.
abbrev pub invariant-loop-place : goal.invariant-loop-place
invariant-loop-place l = fields_of l.fields.items ≡ map (field_at (map string_bytes l.names) (map (λ c. c.kind) l.columns)) (range_with_len 0 l.place)
