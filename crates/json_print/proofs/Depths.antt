-- How deep the documents of files are.
use Rattle.std.proofs.Common.{◌≡◌, ℕ, suc, max, ◌+◌, ◌*◌, ◌≤◌, ℤ, pos, List, [], ◌∷◌, Bool, true, false, not, refl, ap₂, arith}
use Rattle.arrays.specs.Prelude.{FieldShape, IntType, Item, Narrow, OffsetWidth, Shape, W16, W32, W64, W8, Width, dict, field, inner_items, is_null, kind_of_field, kind_of_shape, offset_type}
use Rattle.arrays.specs.Item as column
use Rattle.arrays.specs.Kind as kind
use Rattle.arrays.specs.Shape as shape
use Rattle.arrays.specs.Shape.{int, boolean}
use Rattle.json_base.specs.Prelude.{Data, Items, Table, depth, items_depth, members_depth}
use Rattle.json_print.specs.Prelude.{AreShallow, batch_data, batches_data, code_data, code_in, column_data, columns_data, dictionaries_from, document, each, entries_data, entry_data, field_data, fields_data, flag_data, has_dictionary, int_data, item_length, last_members, list_column, number_data, offset_data, offsets_data, plain_column, schema_data, shaped_column, text_column, text_data, text_items, truth_data, valid_data, with_field}

each_flat : (value : Item → Data) → ((x : Item) → depth (value x) ≡ 0) → (items : List Item) → items_depth (each value items) ≡ 0
each_flat value flat [] = refl
each_flat value flat (x ∷ xs) = ap₂ max (flat x) (each_flat value flat xs)

flag_flat : (b : Bool) → depth (flag_data b) ≡ 0
flag_flat true = refl
flag_flat false = refl

truth_flat : (x : Item) → depth (truth_data x) ≡ 0
truth_flat column.null = refl
truth_flat (column.int z) = refl
truth_flat (column.boolean b) = flag_flat b
truth_flat (column.text t) = refl
truth_flat (column.list l) = refl

text_flat : (x : Item) → depth (text_data x) ≡ 0
text_flat column.null = refl
text_flat (column.int z) = refl
text_flat (column.boolean b) = refl
text_flat (column.text t) = refl
text_flat (column.list l) = refl

int_flat : (w : Width) (z : ℤ) → depth (int_data w z) ≡ 0
int_flat W8 z = refl
int_flat W16 z = refl
int_flat W32 z = refl
int_flat W64 z = refl

number_flat : (t : IntType) (x : Item) → depth (number_data t x) ≡ 0
number_flat t column.null = int_flat t.bits (pos 0)
number_flat t (column.int z) = int_flat t.bits z
number_flat t (column.boolean b) = int_flat t.bits (pos 0)
number_flat t (column.text bytes) = int_flat t.bits (pos 0)
number_flat t (column.list l) = int_flat t.bits (pos 0)

code_flat : (code : List ℕ → ℕ) (x : Item) → depth (code_data code x) ≡ 0
code_flat code column.null = refl
code_flat code (column.int z) = refl
code_flat code (column.boolean b) = refl
code_flat code (column.text t) = refl
code_flat code (column.list l) = refl

flags_flat : (items : List Item) → items_depth (each valid_data items) ≡ 0
flags_flat = each_flat valid_data (λ x. flag_flat (not (is_null x)))

offset_flat : (w : OffsetWidth) (n : ℕ) → depth (offset_data w n) ≡ 0
offset_flat w n = int_flat (offset_type w).bits (pos n)

offsets_flat : (w : OffsetWidth) (start : ℕ) (items : List Item) → items_depth (offsets_data w start items) ≡ 0
offsets_flat w start [] = ap₂ max (offset_flat w start) refl
offsets_flat w start (x ∷ xs) = ap₂ max (offset_flat w start) (offsets_flat w (start + item_length x) xs)

plain_depth : (value : Item → Data) (name : List ℕ) (items : List Item) → ((x : Item) → depth (value x) ≡ 0) → depth (plain_column value name items) ≤ 2
plain_depth value name items flat = omega (arith, each_flat value flat items, flags_flat items)

text_depth : (w : OffsetWidth) (name : List ℕ) (items : List Item) → depth (text_column w name items) ≤ 2
text_depth w name items = omega (arith, each_flat text_data text_flat items, offsets_flat w 0 items, flags_flat items)

list_depth : (w : OffsetWidth) (child : Data) (name : List ℕ) (items : List Item) (n : ℕ) → depth child ≤ n → depth (list_column w child name items) ≤ n + 2
list_depth w child name items n low = omega (arith, low, offsets_flat w 0 items, flags_flat items)

mutual
  pub column_depth : (code : List ℕ → ℕ) (f : FieldShape) (items : List Item) → depth (column_data code f items) ≤ 2 + 2 * kind.depth (kind_of_field f)
  column_depth code (field name nullable ty) items = shaped_depth code ty name items

  shaped_depth : (code : List ℕ → ℕ) (ty : Shape) (name : List ℕ) (items : List Item) → depth (shaped_column code ty name items) ≤ 2 + 2 * kind.depth (kind_of_shape ty)
  shaped_depth code (int t) name items = omega (arith, plain_depth (number_data t) name items (number_flat t))
  shaped_depth code boolean name items = omega (arith, plain_depth truth_data name items truth_flat)
  shaped_depth code (shape.texts w) name items = omega (arith, text_depth w name items)
  shaped_depth code (shape.lists w f) name items =
      omega (arith, list_depth w (column_data code f (inner_items items)) name items (2 + 2 * kind.depth (kind_of_field f)) (column_depth code f (inner_items items)))
  shaped_depth code dict name items = omega (arith, plain_depth (code_data code) name items (code_flat code))

-- ---- batches and dictionaries

columns_depth : (dictionaries : List (List (List ℕ))) (fields : List FieldShape) (columns : List (List Item)) → AreShallow fields → items_depth (columns_data dictionaries fields columns) ≤ 18
columns_depth [] fields columns h = omega arith
columns_depth (texts ∷ dictionaries) [] columns h = omega arith
columns_depth (texts ∷ dictionaries) (f ∷ fields) [] h = omega arith
columns_depth (texts ∷ dictionaries) (f ∷ fields) (items ∷ columns) h =
    omega (arith, column_depth (code_in texts) f items, h.0, columns_depth dictionaries fields columns h.1)

batch_depth : (dictionaries : List (List (List ℕ))) (fields : List FieldShape) (t : Table) → AreShallow fields → depth (batch_data dictionaries fields t) ≤ 20
batch_depth dictionaries fields t h = omega (arith, columns_depth dictionaries fields t.columns h)

batches_depth : (dictionaries : List (List (List ℕ))) (fields : List FieldShape) (tables : List Table) → AreShallow fields → items_depth (batches_data dictionaries fields tables) ≤ 20
batches_depth dictionaries fields [] h = omega arith
batches_depth dictionaries fields (t ∷ tables) h = omega (arith, batch_depth dictionaries fields t h, batches_depth dictionaries fields tables h)

entry_depth : (id : ℕ) (name : List ℕ) (texts : List (List ℕ)) → depth (entry_data id name texts) ≤ 5
entry_depth id name texts = omega (arith, text_depth Narrow name (text_items texts))

with_field_depth : (id : ℕ) (f : FieldShape) (texts : List (List ℕ)) (others : Items) → items_depth others ≤ 5 → items_depth (with_field id f texts others) ≤ 5
with_field_depth id (field name nullable (int t)) texts others h = h
with_field_depth id (field name nullable boolean) texts others h = h
with_field_depth id (field name nullable (shape.texts w)) texts others h = h
with_field_depth id (field name nullable (shape.lists w f)) texts others h = h
with_field_depth id (field name nullable dict) texts others h = omega (arith, h, entry_depth id name texts)

entries_depth : (place : ℕ) (dictionaries : List (List (List ℕ))) (fields : List FieldShape) → items_depth (entries_data place dictionaries fields) ≤ 5
entries_depth place [] fields = omega arith
entries_depth place (texts ∷ dictionaries) [] = omega arith
entries_depth place (texts ∷ dictionaries) (f ∷ fields) = with_field_depth place f texts (entries_data (suc place) dictionaries fields) (entries_depth (suc place) dictionaries fields)

-- ---- schemas

field_depth : (id : ℕ) (f : FieldShape) → depth (field_data id f) ≤ 3 + 2 * kind.depth (kind_of_field f)
field_depth id (field name nullable (int t)) = omega arith
field_depth id (field name nullable boolean) = omega arith
field_depth id (field name nullable (shape.texts w)) = omega arith
field_depth id (field name nullable (shape.lists w f)) = omega (arith, field_depth id f)
field_depth id (field name nullable dict) = omega arith

fields_depth : (place : ℕ) (fields : List FieldShape) → AreShallow fields → items_depth (fields_data place fields) ≤ 19
fields_depth place [] h = omega arith
fields_depth place (f ∷ fields) h = omega (arith, field_depth place f, h.0, fields_depth (suc place) fields h.1)

schema_depth : (fields : List FieldShape) → AreShallow fields → depth (schema_data fields) ≤ 21
schema_depth fields h = omega (arith, fields_depth 0 fields h)

-- ---- documents

last_depth : (b : Bool) (dictionaries : List (List (List ℕ))) (fields : List FieldShape) → AreShallow fields → members_depth (last_members b dictionaries fields) ≤ 21
last_depth true dictionaries fields h = omega (arith, entries_depth 0 dictionaries fields, schema_depth fields h)
last_depth false dictionaries fields h = omega (arith, schema_depth fields h)

pub document_depth : (fields : List FieldShape) (tables : List Table) → AreShallow fields → depth (document fields tables) ≤ 22
document_depth fields tables h =
    let dictionaries = dictionaries_from 0 fields tables in
    omega (arith, batches_depth dictionaries fields tables h, last_depth (has_dictionary fields) dictionaries fields h)
