-- What names and positions call among the fields of a schema.
use Rattle.std.specs.Prelude.{ℕ, ◌==◌, Bool, List, length, count_by, position, slice_get, unwrap_or, if◌then◌else◌, Option, Some, None, Result, Ok, Err}
use Rattle.std.specs.Str.{bytes_eq}
use Rattle.types.specs.Shape.{FieldShape, kind_of_field, name_of}
use Rattle.query.specs.declared.fault.QueryFault.{QueryFault}
use Rattle.query.specs.declared.fault.QueryFault.TheVariants.{NoColumn, AmbiguousColumn}
use Rattle.query.specs.declared.sort.Sort.{Sort}
use Rattle.query.specs.Sorts.{sort_of_kind}

-- ---- positions

abbrev pub sort_of_field : Option FieldShape → Result Sort QueryFault
sort_of_field (Some f) = Ok (sort_of_kind (kind_of_field f))
sort_of_field None = Err NoColumn

-- The sort of the column at a position, which must be that of a field.
abbrev pub sort_at : List FieldShape → ℕ → Result Sort QueryFault
sort_at fields place = sort_of_field (slice_get fields place)

-- ---- names

abbrev pub has_name : List ℕ → FieldShape → Bool
has_name name f = bytes_eq (name_of f) name

-- The position of the first field of the name, else how many fields there are.
abbrev pub place_of : List FieldShape → List ℕ → ℕ
place_of fields name = unwrap_or (position (has_name name) fields) (length fields)

-- The sort of the column of a name, which exactly one field must have.
abbrev pub sort_named : List FieldShape → List ℕ → Result Sort QueryFault
sort_named fields name =
    if count_by (has_name name) fields == 0 then Err NoColumn
    else (if count_by (has_name name) fields == 1 then sort_at fields (place_of fields name) else Err AmbiguousColumn)
