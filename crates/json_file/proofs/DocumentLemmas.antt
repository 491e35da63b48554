-- The members of a document one after another, and the file that they make.
use Rattle.std.proofs.Common.{◌≡◌, ◌≢◌, ◌∙◌, ℕ, List, Option, Some, None, map, drop, option_and_then, refl, sym, ap, subst, arith}
use Rattle.arrays.specs.Prelude.{Batch, FieldShape, File}
use Rattle.json_read.specs.Prelude.{Coding, Data, HasCatalog, HasCoding, HasSchema, Members, ReadsBatch, ReadsFile, ReadsFirst, array, as_array, file_of, get_member, member_name, member_of, no_items, object, put, table_of}
use Rattle.json_read.specs.Members as member
use Rattle.json_scan.specs.Spelling.{SpellsAt, before}
use Rattle.json_scan.proofs.Values.{same_value}
use Rattle.json_stream.specs.Column.{StandsOn}
use Rattle.json_stream.specs.declared.column.Stretch.{Stretch}
use Rattle.json_stream.proofs.ColumnLemmas.{first_apart, here, there, no_member}
use Rattle.json_stream.proofs.SlotLemmas.{items_len-before}
use Rattle.json_file.specs.Prelude.{AreBatches, HoldsDocument, HoldsFile, IsFileAt, StandsAt}
use Rattle.json_file.specs.declared.document.DocumentParts.{DocumentParts}
use Rattle.json_file.specs.declared.document.FileAt.{FileAt}
use Rattle.json_file.specs.declared.head.HeadPlaces.{HeadPlaces}

-- ---- the head decides how batches are read

module _ (d e : Data) (schema : member_of member.Schema d ≡ member_of member.Schema e) (dictionaries : member_of member.Dictionaries d ≡ member_of member.Dictionaries e) where
  same_schema : (fields : List FieldShape) → HasSchema d fields → HasSchema e fields
  same_schema fields h = record { schema = h.schema; at_schema = sym schema ∙ h.at_schema; reads = h.reads }

  same_coding : (field : Data) (c : Option Coding) → HasCoding d field c → HasCoding e field c
  same_coding field None h = h
  same_coding field (Some c) h = record {
    id = h.id;
    encoding = h.encoding;
    entries = h.entries;
    ids = h.ids;
    given = record { listed = ap (option_and_then as_array) (sym dictionaries) ∙ h.given.listed; numbered = h.given.numbered };
    dictionary = h.dictionary;
  }

  same_catalog : (catalog : List (Option Coding)) → HasCatalog d catalog → HasCatalog e catalog
  same_catalog catalog h = record {
    fields = h.fields;
    listed = ap (λ o. option_and_then as_array (option_and_then (member_of member.Fields) o)) (sym schema) ∙ h.listed;
    each = record { len = h.each.len; each = λ i f c found got. same_coding f c (h.each.each i f c found got) };
  }

-- two values at one place are one
same_standing : (depth : ℕ) (text : List ℕ) (a b : Option Data) (s : Option Stretch) → StandsOn depth text a s → StandsOn depth text b s → a ≡ b
same_standing depth text a b None h g = h ∙ sym g
same_standing depth text a b (Some s) h g =
    let same = same_value depth (drop s.start text) (drop s.end text) (drop s.end text) h.0 g.0 h.2 g.2 h.3 g.3 in
    h.1 ∙ (ap Some same ∙ sym g.1)

pub document_read : (depth : ℕ) (text : List ℕ) (ms : Members) (places : HeadPlaces) (head : Data) (f : File) → StandsOn depth text (get_member (member_name member.Schema) ms) places.schema
    → StandsOn depth text (get_member (member_name member.Dictionaries) ms) places.dictionaries → StandsAt depth text head places → HoldsFile head (get_member (member_name member.Batches) ms) f → ReadsFile (object ms) (file_of f)
document_read depth text ms places head f at_schema at_dictionaries h g =
    let schema : member_of member.Schema head ≡ member_of member.Schema (object ms) = same_standing depth text _ _ places.schema h.schema at_schema in
    let dictionaries : member_of member.Dictionaries head ≡ member_of member.Dictionaries (object ms) = same_standing depth text _ _ places.dictionaries h.dictionaries at_dictionaries in
    record {
      schema = same_schema head (object ms) schema dictionaries f.fields g.schema;
      catalog = g.catalog;
      coded = same_catalog head (object ms) schema dictionaries g.catalog g.coded;
      batches = g.batches;
      at_batches = g.listed;
      tables = g.tables;
    }

-- ---- a member is taken

pub schema_apart : member_name member.Schema ≢ member_name member.Batches
schema_apart = first_apart _ _ (λ e. omega (arith, e))

pub dictionaries_apart : member_name member.Dictionaries ≢ member_name member.Batches
dictionaries_apart = first_apart _ _ (λ e. omega (arith, e))

pub schema_not_dictionaries : member_name member.Schema ≢ member_name member.Dictionaries
schema_not_dictionaries = first_apart _ _ (λ e. omega (arith, e))

module _ (depth : ℕ) (text name : List ℕ) (d : Data) (ms : Members) (p : DocumentParts) (h : HoldsDocument depth text ms p) where
  same_schema_place : name ≢ member_name member.Schema → StandsOn depth text (get_member (member_name member.Schema) (put name d ms)) p.places.schema
  same_schema_place apart = subst (λ o. StandsOn depth text o p.places.schema) (sym (there member.Schema name d ms apart)) h.schema

  same_dictionaries_place : name ≢ member_name member.Dictionaries → StandsOn depth text (get_member (member_name member.Dictionaries) (put name d ms)) p.places.dictionaries
  same_dictionaries_place apart = subst (λ o. StandsOn depth text o p.places.dictionaries) (sym (there member.Dictionaries name d ms apart)) h.dictionaries

  same_batches : name ≢ member_name member.Batches → StandsOn depth text (get_member (member_name member.Batches) (put name d ms)) p.batches
  same_batches apart = subst (λ o. StandsOn depth text o p.batches) (sym (there member.Batches name d ms apart)) h.batches

  same_file : name ≢ member_name member.Batches → IsFileAt depth text (get_member (member_name member.Batches) (put name d ms)) p.file
  same_file apart = subst (λ o. IsFileAt depth text o p.file) (sym (there member.Batches name d ms apart)) h.file

  pub schema_taken : (s : Stretch) → name ≡ member_name member.Schema → StandsOn depth text (Some d) (Some s)
      → HoldsDocument depth text (put name d ms) (record p { places = record { schema = Some s; dictionaries = p.places.dictionaries } })
  schema_taken s e stands =
      let no_batches = no_member member.Schema member.Batches name e schema_apart in
      record {
        schema = subst (λ o. StandsOn depth text o (Some s)) (sym (here member.Schema name d ms e)) stands;
        dictionaries = same_dictionaries_place (no_member member.Schema member.Dictionaries name e schema_not_dictionaries);
        batches = same_batches no_batches;
        file = same_file no_batches;
      }

  pub dictionaries_taken : (s : Stretch) → name ≡ member_name member.Dictionaries → StandsOn depth text (Some d) (Some s)
      → HoldsDocument depth text (put name d ms) (record p { places = record { schema = p.places.schema; dictionaries = Some s } })
  dictionaries_taken s e stands =
      let no_batches = no_member member.Dictionaries member.Batches name e dictionaries_apart in
      record {
        schema = same_schema_place (λ f. schema_not_dictionaries (sym f ∙ e));
        dictionaries = subst (λ o. StandsOn depth text o (Some s)) (sym (here member.Dictionaries name d ms e)) stands;
        batches = same_batches no_batches;
        file = same_file no_batches;
      }

  pub batches_taken : (s : Stretch) (f : Option FileAt) → name ≡ member_name member.Batches → StandsOn depth text (Some d) (Some s) → IsFileAt depth text (Some d) f
      → HoldsDocument depth text (put name d ms) (record p { batches = Some s; file = f })
  batches_taken s f e stands is =
      let found = here member.Batches name d ms e in
      record {
        schema = same_schema_place (λ g. schema_apart (sym g ∙ e));
        dictionaries = same_dictionaries_place (λ g. dictionaries_apart (sym g ∙ e));
        batches = subst (λ o. StandsOn depth text o (Some s)) (sym found) stands;
        file = subst (λ o. IsFileAt depth text o f) (sym found) is;
      }

  pub other_passed : name ≢ member_name member.Schema → name ≢ member_name member.Dictionaries → name ≢ member_name member.Batches → HoldsDocument depth text (put name d ms) p
  other_passed no_schema no_dictionaries no_batches = record {
    schema = same_schema_place no_schema;
    dictionaries = same_dictionaries_place no_dictionaries;
    batches = same_batches no_batches;
    file = same_file no_batches;
  }

-- ---- the batches at their place

pub placed_file : (depth : ℕ) (text : List ℕ) (found : Option Data) (s : Stretch) (d : Data) (head : Data) (f : File) → StandsOn depth text found (Some s) → SpellsAt depth (drop s.start text) d (drop s.end text)
    → HoldsFile head (Some d) f → HoldsFile head found f
placed_file depth text found s d head f stands spelled h =
    let same = same_value depth (drop s.start text) (drop s.end text) (drop s.end text) stands.0 d stands.2 spelled stands.3 stands.3 in
    subst (λ o. HoldsFile head o f) (sym (stands.1 ∙ ap Some same)) h

-- ---- the file of a head and of batches

pub file_held : (head : Data) (fields : List FieldShape) (catalog : List (Option Coding)) (ds : List Data) (bs : List Batch) (f : File) → HasSchema head fields → HasCatalog head catalog → AreBatches fields catalog ds bs
    → f ≡ record { fields = fields; batches = bs } → HoldsFile head (Some (array (before ds no_items))) f
file_held head fields catalog ds bs f schema coded h is =
    subst (HoldsFile head (Some (array (before ds no_items)))) (sym is) record {
      schema = schema;
      catalog = catalog;
      coded = coded;
      batches = before ds no_items;
      listed = refl;
      tables = subst (λ n. ReadsFirst (ReadsBatch fields catalog) (before ds no_items) n (map table_of bs)) (sym (items_len-before ds)) h.read;
      under = h.under;
    }
