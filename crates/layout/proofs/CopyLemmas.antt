-- Copies of arrays: parts that are read alike make arrays that are read alike.
use Rattle.std.proofs.Common.{◌≡◌, ◌∙◌, ℕ, List, map, Option, None, option_map, ap, sym}
use Rattle.types.specs.declared.data_type.DataType.{DataType}
use Rattle.layout.specs.declared.raw.RawArray.{RawArray, RawArray-F, out-RawArray, roll-RawArray, fold-roll-RawArray}
use Rattle.types.specs.Prelude.{kind_of, kind_of_shape, shape_of}
use Rattle.layout.specs.Prelude.{Buffers, Reading, Seen, checked_texts, read_checked, read_parts, reading, reading_step}
use Rattle.layout.proofs.FirstFaultLemmas.{entries-map, reading-raw}
use Rattle.types.proofs.ShapeLemmas.{kind_of_shape-shape_of}

-- types of one shape have one kind
pub kind_of-shape : (t u : DataType) → shape_of t ≡ shape_of u → kind_of t ≡ kind_of u
kind_of-shape t u h = sym (kind_of_shape-shape_of t) ∙ ap kind_of_shape h ∙ kind_of_shape-shape_of u

read_parts-copy : (t u : DataType) (n : ℕ) (stated : Option ℕ) (buffers parts : Buffers) (children below : List Reading) (dictionary entries : Option Reading)
    → shape_of t ≡ shape_of u → buffers ≡ parts → children ≡ below → dictionary ≡ entries
    → read_parts (kind_of t) n stated buffers children dictionary ≡ read_parts (kind_of u) n stated parts below entries
read_parts-copy t u n stated buffers parts children below dictionary entries shapes bytes inner words =
    ap (λ k. read_parts k n stated buffers children dictionary) (kind_of-shape t u shapes)
    ∙ ap (λ b. read_parts (kind_of u) n stated b children dictionary) bytes
    ∙ ap (λ c. read_parts (kind_of u) n stated parts c dictionary) inner
    ∙ ap (read_parts (kind_of u) n stated parts below) words

pub read_checked-copy : (t u : DataType) (n : ℕ) (buffers parts : Buffers) (children below : List RawArray) (words again : Option Seen)
    → shape_of t ≡ shape_of u → buffers ≡ parts → map reading children ≡ map reading below → words ≡ again
    → read_checked (kind_of t) n buffers children words ≡ read_checked (kind_of u) n parts below again
read_checked-copy t u n buffers parts children below words again shapes bytes inner same =
    read_parts-copy t u n None buffers parts (map reading children) (map reading below) (option_map checked_texts words) (option_map checked_texts again) shapes bytes inner (ap (option_map checked_texts) same)

-- the reading of a raw array that is made of parts
pub reading-made : (r : RawArray-F RawArray)
    → reading (roll-RawArray r) ≡ read_parts (kind_of r.ty) r.length r.null_count r.buffers.items (map reading r.children.items) (option_map (λ b. reading b.value) r.dictionary)
reading-made r =
    fold-roll-RawArray Reading reading_step r
    ∙ ap (read_parts (kind_of r.ty) r.length r.null_count r.buffers.items (map reading r.children.items)) (entries-map reading r.dictionary)

pub reading-copy : (r : RawArray-F RawArray) (raw : RawArray)
    → shape_of r.ty ≡ shape_of (out-RawArray raw).ty
    → r.length ≡ (out-RawArray raw).length
    → r.null_count ≡ (out-RawArray raw).null_count
    → r.buffers.items ≡ (out-RawArray raw).buffers.items
    → map reading r.children.items ≡ map reading (out-RawArray raw).children.items
    → option_map (λ b. reading b.value) r.dictionary ≡ option_map (λ b. reading b.value) (out-RawArray raw).dictionary
    → reading (roll-RawArray r) ≡ reading raw
reading-copy r raw shapes slots nulls bytes inner words =
    let s = out-RawArray raw in
    reading-made r
    ∙ ap (λ n. read_parts (kind_of r.ty) n r.null_count r.buffers.items (map reading r.children.items) (option_map (λ b. reading b.value) r.dictionary)) slots
    ∙ ap (λ o. read_parts (kind_of r.ty) s.length o r.buffers.items (map reading r.children.items) (option_map (λ b. reading b.value) r.dictionary)) nulls
    ∙ read_parts-copy r.ty s.ty s.length s.null_count r.buffers.items s.buffers.items (map reading r.children.items) (map reading s.children.items) (option_map (λ b. reading b.value) r.dictionary) (option_map (λ b. reading b.value) s.dictionary) shapes bytes inner words
    ∙ sym (reading-raw raw)
