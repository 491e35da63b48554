-- Fields of CSV. (RFC 4180, section 2)
use Rattle.std.specs.Prelude.{ℕ, List, [], ◌∷◌, ◌++◌, ◌||◌, ◌==◌, Bool, chars, cond, encode_utf8, flat_map, length}
use Rattle.std.specs.List.{join_with_byte, list_any}
use Rattle.std.specs.Fmt.{signed_decimal}
use Rattle.arrays.specs.Item as item
use Rattle.arrays.specs.Prelude.{Item}
use Rattle.reports.specs.Shown.{truth_text}

-- A comma, a quote, CR and LF stand within quotes alone. (item 6)
abbrev pub is_special : ℕ → Bool
is_special b = (b == 44) || (b == 34) || (b == 13) || (b == 10)

-- So does an empty text, since nothing at all stands for null.
abbrev pub is_quoted : List ℕ → Bool
is_quoted t = (length t == 0) || list_any is_special t

-- A quote within quotes is doubled. (item 7)
abbrev pub doubled_char : ℕ → List ℕ
doubled_char c = cond (c == 34) (34 ∷ 34 ∷ []) (encode_utf8 c)

-- A text as a field. (item 5)
abbrev pub csv_text : List ℕ → List ℕ
csv_text t = cond (is_quoted t) (34 ∷ flat_map doubled_char (chars t) ++ 34 ∷ []) t

-- A value as a field. Lists have none.
abbrev pub csv_cell : Item → List ℕ
csv_cell item.null = []
csv_cell (item.int z) = signed_decimal z
csv_cell (item.boolean b) = truth_text b
csv_cell (item.text t) = csv_text t
csv_cell (item.list xs) = []

-- A record: fields with a comma between each two, and CR LF at the end. (items 1 and 4)
abbrev pub csv_record : List (List ℕ) → List ℕ
csv_record fields = join_with_byte 44 fields ++ 13 ∷ 10 ∷ []
