-- What a column in the making shows.
use Rattle.std.specs.Prelude.{ℕ, List, Option, refl}
use Rattle.std.specs.Coded.{Coded, code_by, coded_ℕ, coded_list, coded_option, coded×}
use Rattle.types.specs.FieldCode.{int_code, offsets_code}
use Rattle.types.specs.declared.int_type.IntType.{IntType}
use Rattle.types.specs.declared.offset_width.OffsetWidth.{OffsetWidth}
use Rattle.layout.specs.Prelude.{Item, item_code}

-- The numbers so far, null where there is none.
pub record Column : Type 0 where
  pub ty : IntType
  pub items : List Item

-- By it a proof tells such columns apart.
abbrev pub column_code : Coded Column
column_code = code_by (IntType × List Item) (coded× int_code (coded_list item_code)) (λ c. (c.ty, c.items)) (λ p. record { ty = p.0; items = p.1 }) (λ _. refl)

-- Texts or other slots in the making whose offsets are so wide: how long each slot is, none where it is null.
pub record SizedColumn : Type 0 where
  pub width : OffsetWidth
  pub lengths : List (Option ℕ)

abbrev pub sized_column_code : Coded SizedColumn
sized_column_code = code_by (OffsetWidth × List (Option ℕ)) (coded× offsets_code (coded_list (coded_option coded_ℕ))) (λ c. (c.width, c.lengths)) (λ p. record { width = p.0; lengths = p.1 }) (λ _. refl)

-- Texts in the making whose offsets are so wide: the texts so far, null where there is none.
pub record TextColumn : Type 0 where
  pub width : OffsetWidth
  pub items : List Item

abbrev pub text_column_code : Coded TextColumn
text_column_code = code_by (OffsetWidth × List Item) (coded× offsets_code (coded_list item_code)) (λ c. (c.width, c.items)) (λ p. record { width = p.0; items = p.1 }) (λ _. refl)
