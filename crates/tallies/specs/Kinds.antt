-- Items of one kind.
use Rattle.std.specs.Prelude.{◌≡◌, ℕ, false, List, All, ⊤}
use Rattle.arrays.specs.Prelude.{IsItemOf, Item, Kind, Row, is_list}
use Rattle.evaluate.specs.Prelude.{Agg, Count, Greatest, Least, Rows, Sum}
use Rattle.tallies.specs.Tallies.{item_for}

-- An item of which the least or the greatest is sought is null or of its column's kind, which isn't one of lists.
abbrev pub IsComparable : (ℕ → Kind) → Agg ℕ → Item → Type 0
IsComparable kinds Rows x = ⊤
IsComparable kinds (Count c) x = ⊤
IsComparable kinds (Sum c) x = ⊤
IsComparable kinds (Least c) x = (is_list (kinds c) ≡ false) × IsItemOf (kinds c) x
IsComparable kinds (Greatest c) x = (is_list (kinds c) ≡ false) × IsItemOf (kinds c) x

-- What each aggregate looks at in a row can be compared.
abbrev pub AreComparable : (ℕ → Kind) → List (Agg ℕ) → Row → Type 0
AreComparable kinds aggs row = All (λ (a : Agg ℕ). IsComparable kinds a (item_for a row)) aggs
