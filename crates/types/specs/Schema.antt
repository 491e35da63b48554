-- What a schema refuses.
use Rattle.std.specs.Prelude.{List, Bool, nat_lt, not, ◌&&◌, Option, option_map, position}
use Rattle.std.specs.Option.{option_or}
use Rattle.types.specs.Kind.{Kind, depth, has_dict_in_list}
use Rattle.types.specs.Shape.{FieldShape, kind_of_field}
use Rattle.types.specs.declared.schema.SchemaFault.{SchemaFault}
use Rattle.types.specs.declared.schema.SchemaFault.TheVariants.{TooDeep, DictInList}

-- More than 8 lists in one another.
abbrev pub is_deep : FieldShape → Bool
is_deep f = nat_lt 8 (depth (kind_of_field f))

-- A dictionary inside a list.
abbrev pub holds_dict : FieldShape → Bool
holds_dict f = has_dict_in_list (kind_of_field f)

-- The same of a type that isn't too deep.
abbrev pub is_shallow_with_dict : Kind → Bool
is_shallow_with_dict k = not (nat_lt 8 (depth k)) && has_dict_in_list k

-- The first fault of the fields, each kind of fault at its least column.
abbrev pub schema_fault : List FieldShape → Option SchemaFault
schema_fault fields = option_or (option_map (λ c. TooDeep c) (position is_deep fields)) (option_map (λ c. DictInList c) (position holds_dict fields))
