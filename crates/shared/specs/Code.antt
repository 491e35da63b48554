-- Codes of histories and refusals: by them a proof tells such values apart.
use Rattle.std.specs.Prelude.{◌≡◌, ℕ, zero, suc, refl}
use Rattle.std.specs.Coded.{Coded, code_by, coded_ℕ, coded_list, coded×}
use Rattle.table.specs.Prelude.{History, table_code}
use Rattle.table.specs.declared.refusal.Refusal.{Refusal}
use Rattle.table.specs.declared.refusal.Refusal.TheVariants.{SchemaDiffers, NullInNonNullable, TableFull, BookFull, TextsFull, NoMemory}

abbrev pub history_code : Coded History
history_code = coded_list (coded× coded_ℕ table_code)

abbrev refusal_numbers : Refusal → ℕ × (ℕ × ℕ)
refusal_numbers (SchemaDiffers column) = (0, (column, 0))
refusal_numbers (NullInNonNullable column row) = (1, (column, row))
refusal_numbers TableFull = (2, (0, 0))
refusal_numbers BookFull = (3, (0, 0))
refusal_numbers (TextsFull column) = (4, (column, 0))
refusal_numbers NoMemory = (5, (0, 0))

abbrev refusal : ℕ → ℕ → ℕ → Refusal
refusal zero column row = SchemaDiffers column
refusal (suc zero) column row = NullInNonNullable column row
refusal (suc (suc zero)) column row = TableFull
refusal (suc (suc (suc zero))) column row = BookFull
refusal (suc (suc (suc (suc zero)))) column row = TextsFull column
refusal (suc (suc (suc (suc (suc n))))) column row = NoMemory

pub refusal_again : (r : Refusal) → refusal (refusal_numbers r).0 (refusal_numbers r).1.0 (refusal_numbers r).1.1 ≡ r
refusal_again (SchemaDiffers column) = refl
refusal_again (NullInNonNullable column row) = refl
refusal_again TableFull = refl
refusal_again BookFull = refl
refusal_again (TextsFull column) = refl
refusal_again NoMemory = refl

abbrev pub refusal_code : Coded Refusal
refusal_code = code_by (ℕ × (ℕ × ℕ)) (coded× coded_ℕ (coded× coded_ℕ coded_ℕ)) refusal_numbers (λ p. refusal p.0 p.1.0 p.1.1) refusal_again
