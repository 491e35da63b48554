-- The slots that are valid in both of two columns.
use Rattle.std.specs.Prelude.{ℕ, ◌&&◌, List, Bool, map, length}
use Rattle.std.specs.List.{range_with_len}
use Rattle.arrays.specs.Prelude.{Seen, valid_at}

abbrev pub valid_in_both : Seen → Seen → ℕ → Bool
valid_in_both a b i = valid_at a i && valid_at b i

abbrev pub both_valid : Seen → Seen → List Bool
both_valid a b = map (valid_in_both a b) (range_with_len 0 (length a.items))
