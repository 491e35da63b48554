-- The least and the greatest of items.
use Rattle.std.specs.Prelude.{ℕ, ◌^◌, ℤ, pos, Bool, not, Option, Some, None, if◌then◌else◌}
use Rattle.std.specs.Ordering.{int_eq, is_gt}
use Rattle.arrays.specs.Prelude.{Item, int, is_null, order}
use Rattle.evaluate.specs.Prelude.{Agg}
use Rattle.evaluate.specs.Aggs as agg
use Rattle.tallies.specs.declared.end.End.{End}
use Rattle.tallies.specs.declared.end.End.TheVariants.{Least, Greatest}

abbrev pub agg_at : End → ℕ → Agg ℕ
agg_at Least c = agg.Least c
agg_at Greatest c = agg.Greatest c

-- Whether the item y is further to the end than x.
abbrev pub is_further : End → Item → Item → Bool
is_further Least x y = is_gt (order x y)
is_further Greatest x y = is_gt (order y x)

-- The one of two items that is further to the end, the first where neither is.
abbrev pub further : End → Item → Item → Item
further end x y = if is_further end x y then y else x

-- Whether the item is the first one, or further than the best one so far.
abbrev pub is_better : End → Option Item → Item → Bool
is_better end None y = not (is_null y)
is_better end (Some x) y = is_further end x y

-- The best one, with an item more.
abbrev pub with_item : End → Option Item → Item → Option Item
with_item end best y = if is_better end best y then Some y else best

-- 2^100, which no integer type has, stands for none.
abbrev pub number_if_any : ℤ → Option Item
number_if_any z = if int_eq z (pos (2 ^ 100)) then None else Some (int z)
