-- Groups, and groups of the rows behind theirs.
use Rattle.std.specs.Prelude.{◌≤◌, ◌^◌, ℕ, ◌+◌, ◌+ℤ◌, List, [], ◌∷◌, ◌++◌, None, All, ⊤, slice_set, slice_index_or}
use Rattle.arrays.specs.Prelude.{Kind, Table}
use Rattle.evaluate.specs.Prelude.{Agg, Count, Greatest, Least, Rows, Sum}
use Rattle.group.specs.Prelude.{better, greater, lesser}
use Rattle.tallies.specs.Columns.{ColumnShape}
use Rattle.tallies.specs.Kinds.{IsComparable}
use Rattle.tallies.specs.Tallies.{TallyShape, bettered, counted, items_for}

-- What an aggregate knows of items, and of items behind them.
abbrev pub merged : Agg ℕ → TallyShape → TallyShape → TallyShape
merged Rows s t = counted (s.count + t.count)
merged (Count c) s t = counted (s.count + t.count)
merged (Sum c) s t = record { count = s.count + t.count; sum = better ◌+ℤ◌ s.sum t.sum; best = None }
merged (Least c) s t = bettered (better lesser s.best t.best)
merged (Greatest c) s t = bettered (better greater s.best t.best)

-- What an aggregate tells: how many, a sum, or the one at an end.
abbrev pub IsCount : Agg ℕ → Type 0
IsCount Rows = ⊤
IsCount (Count c) = ⊤
IsCount (Sum c) = ⊥
IsCount (Least c) = ⊥
IsCount (Greatest c) = ⊥

abbrev pub IsSum : Agg ℕ → Type 0
IsSum Rows = ⊥
IsSum (Count c) = ⊥
IsSum (Sum c) = ⊤
IsSum (Least c) = ⊥
IsSum (Greatest c) = ⊥

abbrev pub IsBest : Agg ℕ → Type 0
IsBest Rows = ⊥
IsBest (Count c) = ⊥
IsBest (Sum c) = ⊥
IsBest (Least c) = ⊤
IsBest (Greatest c) = ⊤

-- Group n with these things more at its end.
abbrev pub put_all : {A : Type 0} → ℕ → List A → List (List A) → List (List A)
put_all n xs groups = slice_set groups n (slice_index_or groups n [] ++ xs)

-- The things of each group at the end of the group that its id names.
abbrev pub spread_all : {A : Type 0} → List ℕ → List (List A) → List (List A) → List (List A)
spread_all [] more groups = groups
spread_all (n ∷ ns) [] groups = groups
spread_all (n ∷ ns) (xs ∷ more) groups = spread_all ns more (put_all n xs groups)

-- The tallies of groups; those whose ids are reported know of more items.
abbrev pub merge_all : Agg ℕ → List ℕ → List TallyShape → List TallyShape → List TallyShape
merge_all a [] more tallies = tallies
merge_all a (n ∷ ns) [] tallies = tallies
merge_all a (n ∷ ns) (t ∷ more) tallies = merge_all a ns more (slice_set tallies n (merged a (slice_index_or tallies n (counted 0)) t))

-- The same of a column.
abbrev pub column_merged : List ℕ → List TallyShape → ColumnShape → ColumnShape
column_merged ids more column = record { agg = column.agg; tallies = merge_all column.agg ids more column.tallies }

-- None counts more than a table may have rows.
abbrev pub AreFew : List TallyShape → Type 0
AreFew tallies = All (λ t. t.count ≤ 2 ^ 40) tallies

-- What the aggregate looks at in the rows of each group.
abbrev pub AreAlike : (ℕ → Kind) → List Table → Agg ℕ → Type 0
AreAlike kinds tables a = All (λ (t : Table). All (IsComparable kinds a) (items_for a t)) tables
