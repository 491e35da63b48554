-- What a document's text has at a place, whatever stands round it: by `json`'s grammar of tokens, and by what `serde_json` makes of them, as its `read` is. (RFC 8259, sections 2 to 5)
use Rattle.std.specs.Prelude.{◌≡◌, ℕ, ◌≤◌, List, [], ◌∷◌, length, false, true, Some}
use Rattle.json.specs.Token.{Token, string, end_array, end_object}
use Rattle.json.specs.Json.{items, members, value}
use Rattle.json.specs.Lex.{Lexeme, token, comma, colon, lex, between, punctuate, Place, may_begin, after_value, begins_colon}
use Rattle.serde_json.specs.Data.{Data, Items, item, Members}
use Rattle.serde_json.specs.Read.{of_json, of_items, of_members, converted}
use Rattle.json_scan.specs.declared.mark.Container.{Container}
use Rattle.json_scan.specs.declared.mark.Container.TheVariants.{Array, Object}
use Rattle.json_scan.specs.declared.mark.Mark.{Mark}
use Rattle.json_scan.specs.declared.mark.Mark.TheVariants.{Comma, End}

-- The tokens of a text that begins at a place of the grammar.
abbrev pub tokens_in : Place → List ℕ → List Token
tokens_in p xs = punctuate p (lex between xs)

-- Wherever a value may begin, the text xs begins with the value d, nested that deep at most, and ys follows it. (Before a colon a string is a key, and no value.)
pub record SpellsAt (depth : ℕ) (xs : List ℕ) (d : Data) (ys : List ℕ) : Type 0 where
  pub reads : (p : Place) → may_begin p ≡ true → begins_colon (lex between ys) ≡ false → converted of_json (value depth (tokens_in p xs)) ≡ Some (d, tokens_in after_value ys)

-- A value that no depth is needed for.
abbrev pub Spells : List ℕ → Data → List ℕ → Type 0
Spells xs d ys = (depth : ℕ) → SpellsAt depth xs d ys

-- The text xs begins with the string s, and ys follows it.
abbrev pub IsString : List ℕ → List ℕ → List ℕ → Type 0
IsString xs s ys = lex between xs ≡ token (string s) ∷ lex between ys

-- ---- arrays and objects

-- The comma after an item or a member, or what closes the array or the object after the last.
abbrev pub mark_lexeme : Container → Mark → Lexeme
mark_lexeme c Comma = comma
mark_lexeme Array End = token end_array
mark_lexeme Object End = token end_object

-- The text xs begins with that mark, and ys follows it.
abbrev pub IsMark : Container → List ℕ → Mark → List ℕ → Type 0
IsMark c xs m ys = lex between xs ≡ mark_lexeme c m ∷ lex between ys

-- The text xs begins with a key and its colon, and ys follows them.
abbrev pub IsKey : List ℕ → List ℕ → List ℕ → Type 0
IsKey xs k ys = lex between xs ≡ token (string k) ∷ colon ∷ lex between ys

-- Where an item may begin, the text xs has the items ds, one or more, and the bracket that closes their array, and ys follows it.
pub record SpellsItems (depth : ℕ) (xs : List ℕ) (ds : Items) (ys : List ℕ) : Type 0 where
  pub reads : (n : ℕ) (p : Place) → may_begin p ≡ true → length (tokens_in p xs) ≤ n → converted of_items (items (value depth) n (tokens_in p xs)) ≡ Some (ds, tokens_in after_value ys)

-- Where a member may begin, the text xs has one or more that make the members ms of `found`, and the brace that closes their object, and ys follows it.
pub record SpellsMembers (depth : ℕ) (xs : List ℕ) (found ms : Members) (ys : List ℕ) : Type 0 where
  pub reads : (n : ℕ) (p : Place) → may_begin p ≡ true → length (tokens_in p xs) ≤ n → converted (λ js. of_members js found) (members (value depth) n (tokens_in p xs)) ≡ Some (ms, tokens_in after_value ys)

-- The items of a list, and then more.
abbrev pub before : List Data → Items → Items
before [] more = more
before (d ∷ ds) more = item d (before ds more)
