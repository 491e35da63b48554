-- A schema as a table stores it.
use Rattle.std.proofs.Common.{◌≡◌, ◌∙◌, List, Option, None, Some, option_map, position, ap, refl}
use Rattle.std.specs.Option.{option_or}
use Rattle.arrays.specs.Prelude.{DictInList, FieldShape, Narrow, SchemaFault, TooDeep, Wide, dict, field, holds_dict, is_deep, lists, schema_fault, texts}
use Rattle.arrays.specs.Shape.{boolean, int}
use Rattle.arrays.proofs.SchemaLemmas.{position-map}
use Rattle.table.specs.Stored.{stored_field, stored_fields}

pub same_deep : (f : FieldShape) → is_deep (stored_field f) ≡ is_deep f
same_deep (field name nullable (int t)) = refl
same_deep (field name nullable boolean) = refl
same_deep (field name nullable (texts Narrow)) = refl
same_deep (field name nullable (texts Wide)) = refl
same_deep (field name nullable (lists w f)) = refl
same_deep (field name nullable dict) = refl

pub same_dict : (f : FieldShape) → holds_dict (stored_field f) ≡ holds_dict f
same_dict (field name nullable (int t)) = refl
same_dict (field name nullable boolean) = refl
same_dict (field name nullable (texts Narrow)) = refl
same_dict (field name nullable (texts Wide)) = refl
same_dict (field name nullable (lists w f)) = refl
same_dict (field name nullable dict) = refl

-- no list gets deeper, and none gets a dictionary
pub schema_fault-stored : (fields : List FieldShape) → schema_fault (stored_fields fields) ≡ schema_fault fields
schema_fault-stored fields =
    ap (λ p. option_or (option_map (λ c. TooDeep c) p) (option_map (λ c. DictInList c) (position holds_dict (stored_fields fields)))) (position-map is_deep is_deep stored_field same_deep fields)
    ∙ ap (λ p. option_or (option_map (λ c. TooDeep c) (position is_deep fields)) (option_map (λ c. DictInList c) p)) (position-map holds_dict holds_dict stored_field same_dict fields)

pub no_fault : (o : Option SchemaFault) (e : SchemaFault) → o ≡ None → o ≡ Some e → ⊥
no_fault None e none some = absurd cc
no_fault (Some x) e none some = absurd cc
