-- What is written of a value: its tokens, after those that stand there.
use Rattle.std.specs.Prelude.{◌≡◌, ℕ, List, ◌++◌}
use Rattle.json.specs.Token.{Token}
use Rattle.json.specs.Tree.{json_tokens, items_tokens, members_tokens}
use Rattle.json_base.specs.Prelude.{Data, Items, Members, items_outline, members_outline, number, outline, unsigned}

-- The tokens of a value. (RFC 8259, section 2)
abbrev pub tokens_of : Data → List Token
tokens_of d = json_tokens (outline d)

-- The value follows.
abbrev pub Adds : Data → List Token → List Token → Type 0
Adds d old new = new ≡ old ++ tokens_of d

-- The items of an array follow, and its end.
abbrev pub AddsItems : Items → List Token → List Token → Type 0
AddsItems ds old new = new ≡ old ++ items_tokens (items_outline ds)

-- The members of an object follow, and its end.
abbrev pub AddsMembers : Members → List Token → List Token → Type 0
AddsMembers ms old new = new ≡ old ++ members_tokens (members_outline ms)

-- A count, or whatever else is a natural number.
abbrev pub natural : ℕ → Data
natural n = number (unsigned n)
