-- The words of json_scan that contracts and proofs name most.
pub use Rattle.json.specs.Json.{Json, if_last, skip_value, value}
pub use Rattle.json.specs.Lex.{after_value, begins_colon, between, fresh, lex, tokens}
pub use Rattle.json_scan.specs.Member.{IsMemberAt}
pub use Rattle.json_scan.specs.Scalars.{AreIntegers, IsTextBody, begins_number, number_integer}
pub use Rattle.json_scan.specs.Spelling.{IsKey, IsMark, IsString, Spells, SpellsAt, SpellsItems, SpellsMembers, before, tokens_in}
pub use Rattle.fast_float.specs.Text.{Parts, digits_of, minus, scan, with_sign}
pub use Rattle.json.specs.Token.{Token}
