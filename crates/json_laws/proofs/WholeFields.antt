-- The fields of a schema: their names are those of strings, and none is at fault.
use Rattle.std.proofs.Common.{◌≡◌, ℕ, List, [], ◌∷◌, Bool, false, Option, None, Some, option_map, position, refl, subst, sym}
use Rattle.std.specs.List.{AllByRecursion, list_any}
use Rattle.std.specs.Option.{option_or}
use Rattle.std.specs.declared.alloc.Global.{Global}
use Rattle.std.specs.declared.string.String.{String}
use Rattle.std.proofs.lemmas.Str.{IsUtf8-string_bytes}
use Rattle.std.proofs.lemmas.Bool.{or_parts}
use Rattle.pool.proofs.PlaceLemmas.{among_missing}
use Rattle.arrays.specs.Prelude.{DataType, Dict, DictInList, Field, FieldShape, Int, LargeList', LargeUtf8, List', Shape, TooDeep, Utf8, field_of, field_step, fields_of, fold_out-Field, holds_dict, is_deep, out-Field, outs-Bool, outs-Dict, outs-Int, outs-LargeList', outs-LargeUtf8, outs-List', outs-Utf8, schema_fault, shape_of, shape_step}
use Rattle.arrays.specs.DataTypes as variants
use Rattle.json_print.proofs.Shapes.{shape_at}
use Rattle.json_laws.specs.IsFile.{IsField, IsNamed, IsNamedInside}

named_item : (name : String Global) (nullable : Bool) (ty : DataType) → IsNamedInside (shape_of ty) → IsNamed (field_of (record { name = name; nullable = nullable; ty = ty }))
named_item name nullable ty inside =
    subst IsNamed (sym (fold_out-Field Shape FieldShape shape_step field_step (record { name = name; nullable = nullable; ty = ty }))) (IsUtf8-string_bytes name, inside)

named_inside : (t : DataType) → IsNamedInside (shape_of t)
named_inside (Int x) = subst IsNamedInside (sym (shape_at (Int x) _ (outs-Int x))) tt
named_inside variants.Bool = subst IsNamedInside (sym (shape_at variants.Bool _ outs-Bool)) tt
named_inside Utf8 = subst IsNamedInside (sym (shape_at Utf8 _ outs-Utf8)) tt
named_inside LargeUtf8 = subst IsNamedInside (sym (shape_at LargeUtf8 _ outs-LargeUtf8)) tt
named_inside (List' b name nullable ty) =
    subst IsNamedInside (sym (shape_at (List' b name nullable ty) _ (outs-List' b name nullable ty))) (named_item name nullable ty (named_inside ty))
named_inside (LargeList' b name nullable ty) =
    subst IsNamedInside (sym (shape_at (LargeList' b name nullable ty) _ (outs-LargeList' b name nullable ty))) (named_item name nullable ty (named_inside ty))
named_inside Dict = subst IsNamedInside (sym (shape_at Dict _ outs-Dict)) tt

named : (f : Field) → IsNamed (field_of f)
named f = subst IsNamed (sym (fold_out-Field Shape FieldShape shape_step field_step f)) (IsUtf8-string_bytes (out-Field f).name, named_inside (out-Field f).ty)

each_lawful : (fields : List Field) → list_any is_deep (fields_of fields) ≡ false → list_any holds_dict (fields_of fields) ≡ false → AllByRecursion IsField (fields_of fields)
each_lawful [] deep dict = tt
each_lawful (f ∷ fields) deep dict =
    let shallow = or_parts (is_deep (field_of f)) (list_any is_deep (fields_of fields)) deep in
    let plain = or_parts (holds_dict (field_of f)) (list_any holds_dict (fields_of fields)) dict in
    (record { named = named f; shallow = shallow.0; plain = plain.0 }, each_lawful fields shallow.1 plain.1)

no_fault : (deep dict : Option ℕ) → option_or (option_map (λ c. TooDeep c) deep) (option_map (λ c. DictInList c) dict) ≡ None → (deep ≡ None) × (dict ≡ None)
no_fault None None h = (refl, refl)
no_fault None (Some c) h = absurd cc
no_fault (Some c) dict h = absurd cc

pub fields_lawful : (fields : List Field) → schema_fault (fields_of fields) ≡ None → AllByRecursion IsField (fields_of fields)
fields_lawful fields lawful =
    let none = no_fault (position is_deep (fields_of fields)) (position holds_dict (fields_of fields)) lawful in
    each_lawful fields (among_missing is_deep (fields_of fields) none.0) (among_missing holds_dict (fields_of fields) none.1)
