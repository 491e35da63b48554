-- The output of `schema`, line by line.
use Rattle.std.specs.Prelude.{ℕ, List, ◌++◌, Bool, codes}
use Rattle.std.specs.List.{flat_map}
use Rattle.json.specs.Print.{quoted}
use Rattle.ends.specs.Line.{line}
use Rattle.arrays.specs.Prelude.{FieldShape, Kind, is_nullable, kind_of_field, name_of}
use Rattle.reports.specs.Shown.{shown_kind, truth_text}

-- A name, a type, and whether it may hold nulls.
abbrev pub schema_line : List ℕ → Kind → Bool → List ℕ
schema_line name k nullable = line (quoted name ++ codes " " ++ shown_kind k ++ codes " nullable=" ++ truth_text nullable)

-- A line for each field, in order.
abbrev pub schema_lines : List FieldShape → List ℕ
schema_lines fields = flat_map (λ f. schema_line (name_of f) (kind_of_field f) (is_nullable f)) fields
