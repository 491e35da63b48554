-- What formats name (Arrow C data interface, "Data type description -- format strings").
use Rattle.std.specs.Prelude.{ℕ, ◌==◌, List, [], ◌∷◌, Bool, true, false, Option, Some, None, if◌then◌else◌}
use Rattle.arrays.specs.Prelude.{Narrow, W16, W32, W64, W8, Wide, Width}
use Rattle.flat.specs.declared.content.Content.{Content}
use Rattle.flat.specs.declared.content.Content.TheVariants as content

abbrev pub ints : Width → Bool → Option Content
ints bits signed = Some (content.Int (record { bits = bits; signed = signed }))

-- By its letter: c C s S i I l L for integers, b for truth values, u U for texts.
abbrev pub letter_content : ℕ → Option Content
letter_content c =
    if c == 99 then ints W8 true else
    if c == 67 then ints W8 false else
    if c == 115 then ints W16 true else
    if c == 83 then ints W16 false else
    if c == 105 then ints W32 true else
    if c == 73 then ints W32 false else
    if c == 108 then ints W64 true else
    if c == 76 then ints W64 false else
    if c == 98 then Some content.Bool else
    if c == 117 then Some (content.Texts Narrow) else
    if c == 85 then Some (content.Texts Wide) else None

-- Lists by the letter behind a plus: l or L.
abbrev pub list_content : ℕ → Option Content
list_content c =
    if c == 108 then Some (content.Lists Narrow) else
    if c == 76 then Some (content.Lists Wide) else None

abbrev pub format_content : List ℕ → Option Content
format_content [] = None
format_content (c ∷ []) = letter_content c
format_content (c ∷ d ∷ []) = if c == 43 then list_content d else None
format_content (c ∷ d ∷ e ∷ cs) = None
