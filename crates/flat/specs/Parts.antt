-- The parts of nodes as arrays (Arrow C data interface, "The ArrowArray structure").
use Rattle.std.specs.Prelude.{ℕ, ◌==◌, ◌/◌, ◌^◌, ◌-◌, ℤ, negsuc, List, [], ◌∷◌, length, Option, Some, None, if◌then◌else◌}
use Rattle.std.specs.List.{flat_map, range_with_len}
use Rattle.arrays.specs.Prelude.{Buffers, IntType, Kind, Reading, bytes_of, bytes_of_number, int32, is_of_type, number_at, read_parts}
use Rattle.arrays.specs.Kind as kind
use Rattle.flat.specs.Content.{content_of}
use Rattle.flat.specs.declared.content.Content.{Content}
use Rattle.flat.specs.declared.content.Content.TheVariants as content
use Rattle.flat.specs.declared.node.Node.{Node}

-- The bytes of a validity, none where there are no bytes. ("Validity bitmaps": it may be left out)
abbrev pub validity_given : List ℕ → Option (List ℕ)
validity_given [] = None
validity_given (b ∷ bs) = Some (b ∷ bs)

-- The greatest number, -1 of 64 bits, stands for none. ("null_count")
abbrev pub stated : ℕ → Option ℕ
stated n = if n == 2 ^ 64 - 1 then None else Some n

-- The buffers that a layout names.
abbrev pub buffers_given : Kind → Node → Buffers
buffers_given (kind.texts w) n = validity_given n.validity.now ∷ Some n.first.now ∷ Some n.second.now ∷ []
buffers_given k n = validity_given n.validity.now ∷ Some n.first.now ∷ []

-- A node's parts as an array of the kind over these children.
abbrev pub read_node : Kind → Node → List Reading → Reading
read_node k n children = read_parts k n.length (stated n.null_count) (buffers_given k n) children None

-- ---- indices of a dictionary

-- An index as a code of 32 bits; what isn't one of these numbers is -1, which names no entry.
abbrev pub code : ℤ → ℤ
code index = if is_of_type int32 index then index else negsuc 0

-- The bytes of the codes of all indices that lie in bytes.
unfoldable pub code_bytes : IntType → List ℕ → List ℕ
code_bytes t bytes = flat_map (λ j. bytes_of_number int32 (code (number_at t bytes j))) (range_with_len 0 (length bytes / bytes_of t.bits))

abbrev pub codes_of : Option Content → List ℕ → List ℕ
codes_of (Some (content.Codes t)) bytes = code_bytes t bytes
codes_of c bytes = []

-- A node's indices, as codes with this dictionary.
abbrev pub read_codes : Node → Option Reading → Reading
read_codes n dictionary =
    read_parts kind.dict n.length (stated n.null_count) (validity_given n.validity.now ∷ Some (codes_of (content_of n) n.first.now) ∷ []) [] dictionary

-- The texts of the first node.
abbrev pub read_dictionary : List Node → Option Reading
read_dictionary [] = None
read_dictionary (n ∷ rest) = Some (read_node kind.utf8 n [])

-- ---- columns

-- The parts of a node as a column of the kind, with those of the nodes behind it that lie in the column: of a list the one of its
-- items, of indices the one of their dictionary.
abbrev pub read_column : Kind → Node → List Node → Reading
read_column (kind.lists w k) n [] = read_node (kind.lists w k) n []
read_column (kind.lists w k) n (item ∷ behind) = read_node (kind.lists w k) n (read_column k item behind ∷ [])
read_column kind.dict n behind = read_codes n (read_dictionary behind)
read_column k n behind = read_node k n []
