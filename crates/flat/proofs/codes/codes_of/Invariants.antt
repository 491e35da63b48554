use Rattle.std.proofs.Common.{◌≡◌}
use Rattle.std.specs.List.{flat_map, range_with_len}
use Rattle.arrays.specs.Prelude.{bytes_of_number, int32, number_at}
use Rattle.flat.specs.Parts.{code}
use Rattle.flat.proofs.codes.codes_of.Given as goal

-- the codes so far
abbrev pub invariant-loop-j : goal.invariant-loop-j
invariant-loop-j g l = l.codes.items ≡ flat_map (λ j. bytes_of_number int32 (code (number_at g.T.Integer.ty l.bytes j))) (range_with_len 0 l.j)
