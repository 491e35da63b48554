-- What is reported before the texts are looked at.
use Rattle.std.proofs.Common.{◌≡◌, ℕ, ◌+◌, ◌≤◌, ◌^◌, List, [], ◌∷◌, length, Bool, true, false, Option, None, Some, option_map, refl}
use Rattle.std.proofs.lemmas.Bool.{ltb-false}
use Rattle.arrays.specs.Prelude.{Batch, FieldShape, first, rows_of}
use Rattle.std.specs.Bool.{then_some}
use Rattle.table.specs.Prelude.{History, batch_cause, difference, early_cause, is_book_full, is_table_full, null_cause, rows, texts_cause}
use Rattle.table.specs.declared.refusal.Refusal.{Refusal}
use Rattle.table.specs.declared.refusal.Refusal.TheVariants.{BookFull, SchemaDiffers, TableFull}

late : (a n f k x : Option Refusal) → first (a ∷ n ∷ f ∷ k ∷ []) ≡ None → first (a ∷ first (n ∷ f ∷ k ∷ x ∷ []) ∷ []) ≡ x
late None None None None None h = refl
late None None None None (Some r) h = refl
late None None None (Some s) x h = absurd cc
late None None (Some s) k x h = absurd cc
late None (Some s) f k x h = absurd cc
late (Some s) n f k x h = absurd cc

-- Where nothing stands early, the texts alone may.
pub late-cause : (fields : List FieldShape) (h : History) (b : Batch) → early_cause fields h b ≡ None → batch_cause fields h b ≡ texts_cause fields h (rows_of b)
late-cause fields h b early =
    late (option_map (λ c. SchemaDiffers c) (difference fields b.fields)) (null_cause fields (rows_of b)) (then_some (is_table_full h (rows_of b)) TableFull) (then_some (is_book_full h) BookFull)
    (texts_cause fields h (rows_of b)) early

no-difference : (o : Option ℕ) (n f k : Option Refusal) → first (option_map (λ c. SchemaDiffers c) o ∷ n ∷ f ∷ k ∷ []) ≡ None → (o ≡ None) × (n ≡ None)
no-difference None None f k h = (refl, refl)
no-difference None (Some r) f k h = absurd cc
no-difference (Some c) n f k h = absurd cc

pub early-none : (fields : List FieldShape) (h : History) (b : Batch) → early_cause fields h b ≡ None → (difference fields b.fields ≡ None) × (null_cause fields (rows_of b) ≡ None)
early-none fields h b early =
    no-difference (difference fields b.fields) (null_cause fields (rows_of b)) (then_some (is_table_full h (rows_of b)) TableFull) (then_some (is_book_full h) BookFull) early

no-full : (a n : Option Refusal) (f k : Bool) → first (a ∷ n ∷ then_some f TableFull ∷ then_some k BookFull ∷ []) ≡ None → f ≡ false
no-full None None false k h = refl
no-full None None true k h = absurd cc
no-full None (Some r) f k h = absurd cc
no-full (Some r) n f k h = absurd cc

pub few-rows : (fields : List FieldShape) (h : History) (b : Batch) → early_cause fields h b ≡ None → length (rows h) + length (rows_of b) ≤ 2 ^ 40
few-rows fields h b early =
    ltb-false (2 ^ 40) (length (rows h) + length (rows_of b))
    (no-full (option_map (λ c. SchemaDiffers c) (difference fields b.fields)) (null_cause fields (rows_of b)) (is_table_full h (rows_of b)) (is_book_full h) early)
