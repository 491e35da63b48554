-- Batches of one schema, whose dictionary-encoded columns name fronts of one dictionary each.
use Rattle.std.specs.Prelude.{◌≡◌, ◌==◌, ℕ, List, length, map, Bool, true, false, if◌then◌else◌, Option, Some, None, ⊤}
use Rattle.std.specs.Arc.{arc_value}
use Rattle.std.specs.declared.alloc.Global.{Global}
use Rattle.std.specs.declared.sync.Arc.{Arc}
use Rattle.std.specs.declared.vec.Vec.{Vec}
use Rattle.std.specs.List.{AllZip, list_all, zip}
use mathlib.Core.List.{IsPrefix}
use Rattle.arrays.specs.Prelude.{Batch, FieldShape, Seen, batch_fault, kind_of_field, same_kind}
use Rattle.arrays.specs.Kind as kind
use Rattle.group.specs.StatsOfColumns.{AreTheirs}
use Rattle.group.specs.declared.stats.ColumnStats.{ColumnStats}

-- There is a dictionary of texts where the field is a dictionary-encoded one, and none where it isn't.
abbrev pub IsDictionary : FieldShape → Option Seen → Type 0
IsDictionary f None = same_kind (kind_of_field f) kind.dict ≡ false
IsDictionary f (Some d) = (same_kind (kind_of_field f) kind.dict ≡ true) × (d.kind ≡ kind.utf8)

-- The dictionary that the column names begins the other, where there is one.
abbrev pub NamesFront : Seen → Option Seen → Type 0
NamesFront c None = ⊤
NamesFront c (Some d) = IsPrefix c.entries.items d.items

-- The column names the dictionary itself, where there is one.
abbrev pub NamesWhole : Seen → Option Seen → Type 0
NamesWhole c None = ⊤
NamesWhole c (Some d) = c.entries.items ≡ d.items

-- How many texts the dictionary of a column has, none where it has none.
abbrev pub entry_count : Seen → ℕ
entry_count c = if same_kind c.kind kind.dict then length c.entries.items else 0

-- Whether the dictionary, where there is one, has as many texts as the column's own.
abbrev pub is_as_long : Option Seen → Seen → Bool
is_as_long None c = true
is_as_long (Some d) c = entry_count c == length d.items

-- Whether that is so of all columns.
abbrev pub are_as_long : List (Option Seen) → List Seen → Bool
are_as_long dictionaries columns = list_all (λ p. is_as_long p.0 p.1) (zip dictionaries columns)

-- A lawful batch of the fields, whose columns name fronts of these dictionaries.
pub record IsUnder (fields : List FieldShape) (dictionaries : List (Option Seen)) (b : Batch) : Type 0 where
  pub same : b.fields ≡ fields
  pub lawful : batch_fault b.fields b.rows b.columns ≡ None
  pub fronts : AllZip NamesFront b.columns dictionaries

abbrev pub pieces_of : List (Arc (Vec ColumnStats Global) Global) → List (List ColumnStats)
pieces_of stats = map (λ (s : Arc (Vec ColumnStats Global) Global). (arc_value s).items) stats

-- Each batch has the statistics of its columns.
abbrev pub HaveStats : List Batch → List (List ColumnStats) → Type 0
HaveStats batches pieces = AllZip (λ b s. AreTheirs b.columns s) batches pieces
