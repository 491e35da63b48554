-- Statistics of columns side by side.
use Rattle.std.specs.Prelude.{◌++◌, List}
use Rattle.std.specs.List.{AllZip, zip}
use Rattle.arrays.specs.Prelude.{Item, Kind, Seen}
use Rattle.group.specs.Summary.{AreStats}
use Rattle.group.specs.declared.stats.ColumnStats.{ColumnStats}

-- Each of these statistics is its column's.
abbrev pub AreTheirs : List Seen → List ColumnStats → Type 0
AreTheirs columns stats = AllZip (λ c s. AreStats s c.kind c.items) columns stats

-- The third are the statistics of the first's items with the second's behind them.
abbrev pub Joins : ColumnStats → ColumnStats → ColumnStats → Type 0
Joins a b s = (k : Kind) (xs ys : List Item) → AreStats a k xs → AreStats b k ys → AreStats s k (xs ++ ys)

abbrev pub AreJoined : List ColumnStats → List ColumnStats → List ColumnStats → Type 0
AreJoined firsts seconds stats = AllZip (λ p s. Joins p.0 p.1 s) (zip firsts seconds) stats
