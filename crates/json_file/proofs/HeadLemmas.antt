-- What is said before the batches, put together of its two members.
use Rattle.std.proofs.Common.{◌≡◌, ◌∙◌, ℕ, List, length, Option, Some, None, option_and_then, refl, sym, ap, subst}
use Rattle.arrays.specs.Prelude.{FieldShape}
use Rattle.json_read.specs.Prelude.{AreEncoded, Coding, Data, Encoding, HasCatalog, HasSchema, ReadsSchema, as_array, member_name, member_of, no_members, object, put}
use Rattle.json_read.specs.Members as member
use Rattle.json_read.proofs.JsonCatalogs.{catalog_read}
use Rattle.json_read.proofs.JsonFiles.{encodings_listed}
use Rattle.json_stream.specs.Column.{StandsOn}
use Rattle.json_stream.proofs.ColumnLemmas.{here, there}
use Rattle.json_file.specs.Prelude.{AreCodedBy, StandsAt}
use Rattle.json_file.specs.declared.head.HeadPlaces.{HeadPlaces}
use Rattle.json_file.proofs.DocumentLemmas.{schema_not_dictionaries}

-- the object of a schema, and of dictionaries, if there are such
abbrev head_of : Data → Option Data → Data
head_of schema None = object (put (member_name member.Schema) schema no_members)
head_of schema (Some dictionaries) = object (put (member_name member.Dictionaries) dictionaries (put (member_name member.Schema) schema no_members))

member_of-head_schema : (schema : Data) (found : Option Data) → member_of member.Schema (head_of schema found) ≡ Some schema
member_of-head_schema schema None = here member.Schema (member_name member.Schema) schema no_members refl
member_of-head_schema schema (Some dictionaries) =
    there member.Schema (member_name member.Dictionaries) dictionaries (put (member_name member.Schema) schema no_members) (λ e. schema_not_dictionaries (sym e))
    ∙ here member.Schema (member_name member.Schema) schema no_members refl

member_of-head_dictionaries : (schema : Data) (found : Option Data) → member_of member.Dictionaries (head_of schema found) ≡ found
member_of-head_dictionaries schema None = there member.Dictionaries (member_name member.Schema) schema no_members schema_not_dictionaries
member_of-head_dictionaries schema (Some dictionaries) = here member.Dictionaries (member_name member.Dictionaries) dictionaries (put (member_name member.Schema) schema no_members) refl

pub head_read : (depth : ℕ) (text : List ℕ) (places : HeadPlaces) (schema : Data) (found : Option Data) (fields : List FieldShape) (encodings : List (Option Encoding)) (codings : List (Option Coding))
    → StandsOn depth text (Some schema) places.schema → StandsOn depth text found places.dictionaries → ReadsSchema schema fields → AreEncoded schema encodings → AreCodedBy found encodings codings
    → (head : Data) × StandsAt depth text head places × HasSchema head fields × HasCatalog head codings
head_read depth text places schema found fields encodings codings at_schema at_found reads encoded coded =
    let head = head_of schema found in
    let has_schema = member_of-head_schema schema found in
    let has_found = member_of-head_dictionaries schema found in (
      head,
      record {
        schema = subst (λ o. StandsOn depth text o places.schema) (sym has_schema) at_schema;
        dictionaries = subst (λ o. StandsOn depth text o places.dictionaries) (sym has_found) at_found;
      },
      record { schema = schema; at_schema = has_schema; reads = reads },
      catalog_read head encodings coded.entries coded.ids (length encodings) codings (encodings_listed head schema encodings has_schema encoded)
          (λ some. record { listed = ap (option_and_then as_array) has_found ∙ coded.listed some; numbered = coded.numbered }) refl coded.read,
    )
