-- What an answer says, as plain values.
use Rattle.std.specs.Prelude.{◌≡◌, ◌⊎◌, ℕ, List, [], ◌∷◌, map, flat_map, Ok, Err}
use Rattle.arrays.specs.Prelude.{Batch, FieldShape, Table, rows_of}
use Rattle.query.specs.QueryShape.{QueryShape}
use Rattle.query.specs.declared.fault.QueryFault.{QueryFault}
use Rattle.query.specs.declared.fault.QueryFault.TheVariants.{Overflow, NoMemory}
use Rattle.answers.specs.Groups.{GroupShape, groups}
use Rattle.answers.specs.declared.groups.Answer.{Answer}
use Rattle.answers.specs.declared.groups.Group.{Group}
use Rattle.group.specs.Scalars.{item_of_scalar}

abbrev pub group_shape : Group → GroupShape
group_shape g = record { keys = map item_of_scalar g.keys.items; cells = map item_of_scalar g.cells.items }

-- The rows of all batches, one batch after the other.
abbrev pub all_rows : List Batch → Table
all_rows batches = flat_map rows_of batches

-- The fields of the first batch, none where there is none.
abbrev pub first_fields : List Batch → List FieldShape
first_fields [] = []
first_fields (b ∷ batches) = b.fields

-- The answer says what the query asks of the rows.
abbrev pub IsAnswer : List FieldShape → QueryShape ℕ → Table → Answer → Type 0
IsAnswer fields q rows a = groups fields q rows ≡ Ok (map group_shape a.groups.items)

-- The query is refused at the least row where its filter is bad, or a growth was refused.
abbrev pub IsRefusal : List FieldShape → QueryShape ℕ → Table → QueryFault → Type 0
IsRefusal fields q rows e = ((row : ℕ) × (groups fields q rows ≡ Err row) × (e ≡ Overflow row)) ⊎ (e ≡ NoMemory)
