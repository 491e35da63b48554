-- The compact text of a plain value whose strings and names are UTF-8 is UTF-8.
use Rattle.std.proofs.Common.{ℕ, zero, suc, ◌<◌, ◌/◌, ◌%◌, ◌==◌, ℤ, pos, negsuc, List, [], ◌∷◌, ◌++◌, Bool, true, false, if◌then◌else◌, refl, arith, lit<}
use Rattle.std.specs.Prelude.{IsUtf8, ⊤, decimal}
use Rattle.std.specs.Fmt.{digit_glyph, digits, digits_onto, signed_decimal}
use Rattle.std.specs.Str.{IsAscii}
use Rattle.std.proofs.lemmas.Bool.Decides.{nat_tests}
use Rattle.std.proofs.lemmas.Str.{IsUtf8-append, IsUtf8-from_ascii, IsUtf8-nil}
use Rattle.json.proofs.Printed.Utf8.{IsUtf8-are_ascii, IsUtf8-boolean, IsUtf8-quoted}
use Rattle.json.specs.Print.{quoted}
use Rattle.json_base.specs.Prelude.{Data, Items, Members, Num, array, boolean, comma_if, compact_text, float, item, items_text, member, members_text, negative, no_items, no_members, null, number, number_text, object, string, unsigned}
use Rattle.json_print.specs.Plain.{ArePlain, ArePlainMembers, IsPlain, IsWhole}

-- Its strings and names are UTF-8.
abbrev mutual
  pub IsText : Data → Type 0
  IsText null = ⊤
  IsText (boolean b) = ⊤
  IsText (number n) = ⊤
  IsText (string s) = IsUtf8 s
  IsText (array ds) = AreTexts ds
  IsText (object ms) = AreNamed ms

  pub AreTexts : Items → Type 0
  AreTexts no_items = ⊤
  AreTexts (item d ds) = IsText d × AreTexts ds

  pub AreNamed : Members → Type 0
  AreNamed no_members = ⊤
  AreNamed (member name d ms) = IsUtf8 name × IsText d × AreNamed ms

byte : (c : ℕ) (rest : List ℕ) → IsUtf8 (c ∷ []) → IsUtf8 rest → IsUtf8 (c ∷ rest)
byte c rest h g = IsUtf8-append (c ∷ []) rest h g

comma : (later : Bool) → IsUtf8 (comma_if later)
comma true = IsUtf8-are_ascii (44 ∷ []) refl
comma false = IsUtf8-are_ascii [] refl

-- ---- numbers, however long they are

one_ascii : (c : ℕ) → c < 128 → IsAscii (c ∷ [])
one_ascii c small zero = small
one_ascii c small (suc i) = lit< tt

digit_ascii : (d : ℕ) → d < 10 → digit_glyph false d < 128
digit_ascii d small = grind (arith, nat_tests)

either : (b : Bool) (xs ys : List ℕ) → IsUtf8 xs → IsUtf8 ys → IsUtf8 (if b then xs else ys)
either true xs ys h g = h
either false xs ys h g = g

digits_utf8 : (k n : ℕ) (rest : List ℕ) → IsUtf8 rest → IsUtf8 (digits_onto k 10 false n rest)
digits_utf8 zero n rest h = h
digits_utf8 (suc k) n rest h =
    let digit = digit_glyph false (n % 10) in
    let with_digit = byte digit rest (IsUtf8-from_ascii (digit ∷ []) (one_ascii digit (digit_ascii (n % 10) (omega arith)))) h in
    either (n / 10 == 0) (digit ∷ rest) (digits_onto k 10 false (n / 10) (digit ∷ rest)) with_digit (digits_utf8 k (n / 10) (digit ∷ rest) with_digit)

decimal_utf8 : (n : ℕ) → IsUtf8 (decimal n)
unfolding digits
decimal_utf8 n = digits_utf8 64 n [] IsUtf8-nil

pub signed_utf8 : (z : ℤ) → IsUtf8 (signed_decimal z)
signed_utf8 (pos n) = decimal_utf8 n
signed_utf8 (negsuc n) = byte 45 (decimal (suc n)) (IsUtf8-are_ascii (45 ∷ []) refl) (decimal_utf8 (suc n))

number_utf8 : (n : Num) → IsWhole n → IsUtf8 (number_text n)
number_utf8 (unsigned n) h = decimal_utf8 n
number_utf8 (negative z) h = signed_utf8 z
number_utf8 (float x) h = absurd h

mutual
  pub text_utf8 : (d : Data) → IsPlain d → IsText d → IsUtf8 (compact_text d)
  text_utf8 null p h = IsUtf8-are_ascii (compact_text null) refl
  text_utf8 (boolean b) p h = IsUtf8-boolean b
  text_utf8 (number n) p h = number_utf8 n p
  text_utf8 (string s) p h = IsUtf8-quoted s h
  text_utf8 (array ds) p h = byte 91 (items_text false ds) (IsUtf8-are_ascii (91 ∷ []) refl) (items_utf8 false ds p h)
  text_utf8 (object ms) p h = byte 123 (members_text false ms) (IsUtf8-are_ascii (123 ∷ []) refl) (members_utf8 false ms p h)

  items_utf8 : (later : Bool) (ds : Items) → ArePlain ds → AreTexts ds → IsUtf8 (items_text later ds)
  items_utf8 later no_items p h = IsUtf8-are_ascii (93 ∷ []) refl
  items_utf8 later (item d ds) p h =
      IsUtf8-append (comma_if later) (compact_text d ++ items_text true ds) (comma later)
      (IsUtf8-append (compact_text d) (items_text true ds) (text_utf8 d p.0 h.0) (items_utf8 true ds p.1 h.1))

  members_utf8 : (later : Bool) (ms : Members) → ArePlainMembers ms → AreNamed ms → IsUtf8 (members_text later ms)
  members_utf8 later no_members p h = IsUtf8-are_ascii (125 ∷ []) refl
  members_utf8 later (member name d ms) p h =
      let rest = compact_text d ++ members_text true ms in
      IsUtf8-append (comma_if later) (quoted name ++ 58 ∷ rest) (comma later)
      (IsUtf8-append (quoted name) (58 ∷ rest) (IsUtf8-quoted name h.0)
      (byte 58 rest (IsUtf8-are_ascii (58 ∷ []) refl) (IsUtf8-append (compact_text d) (members_text true ms) (text_utf8 d p.0 h.1) (members_utf8 true ms p.2 h.2))))
