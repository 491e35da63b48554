-- Batches appended one after the other, and what is known of a worker before and after.
use Rattle.std.proofs.Common.{◌≡◌, ◌∙◌, ℕ, ◌+◌, ◌<◌, List, [], ◌∷◌, ◌++◌, length, map, take, get_or, Option, Some, None, ap, sym, refl, subst, append_assoc}
use Rattle.std.specs.Prelude.{All, option_map, slice_get}
use Rattle.std.proofs.lemmas.List.{append-nil}
use Rattle.std.proofs.lemmas.List.Elements.{All-cons, All-nil, All-weaker}
use Rattle.std.proofs.lemmas.Option.{slice_get-map, slice_get_read}
use Rattle.arrays.specs.Prelude.{Batch, FieldShape, first, rows_of}
use mathlib.Core.List.{IsPrefix}
use Rattle.shared.proofs.KnownLemmas.{begins_trans, last_typed}
use Rattle.shared.proofs.PrefixLemmas.{prefix_length, prefix_trans}
use Rattle.shared.proofs.WidenedLemmas.{widened-again, widened-append}
use Rattle.shared.specs.Prelude.{Hand, HasAdded, IsBeginning, IsLegal, IsTableOf, Known, Left, Refusal, SchemaDiffers, cause, difference, widened}
use Rattle.loads.proofs.PlanLemmas.{take_next}
use Rattle.loads.specs.Prelude.{HasAppended, IsIdle, Loaded, pairs_of}

-- what stands behind the reference at a place
pub value_at : {A B : Type 0} (v : A → B) (xs : List A) (n : ℕ) (x : A) (y : B) → n < length xs → x ≡ get_or xs n x → y ≡ v x → slice_get (map v xs) n ≡ Some y
value_at v xs n x y below is same = slice_get-map v xs n ∙ ap (option_map v) (slice_get_read xs (length xs) n x refl below is) ∙ ap (λ z. Some z) (sym same)

-- ---- one list after another

pub appended_then : (bs cs : List Batch) (old mid new : Hand) → HasAppended bs old mid → HasAppended cs mid new → HasAppended (bs ++ cs) old new
appended_then bs cs old mid new one two = λ more end is. subst (λ l. Loaded l old end) (sym (append_assoc bs cs more)) (one (cs ++ more) end (two more end is))

-- one batch of a list more
pub appended_next : (bs : List Batch) (n : ℕ) (b : Batch) (old mid new : Hand) → slice_get bs n ≡ Some b → HasAppended (take n bs) old mid → HasAdded b mid new → HasAppended (take (n + 1) bs) old new
appended_next bs n b old mid new at one added =
    subst (λ l. HasAppended l old new) (sym (take_next bs n b at)) (appended_then (take n bs) (b ∷ []) old mid new one (λ more end is. (new, added, is)))

-- nothing more
pub appended_end : (bs : List Batch) (old mid new : Hand) → HasAppended bs old mid → IsIdle mid new → Loaded bs old new
appended_end bs old mid new is idle = subst (λ l. Loaded l old new) (append-nil bs) (is [] new idle)

-- what is left with it doesn't count
pub loaded_any : (bs : List Batch) (old new : Hand) (o : Option Left) → Loaded bs old new → Loaded bs old (record { number = new.number; seen = new.seen; mine = new.mine; columns = new.columns; left = o })
loaded_any [] old new o is = record { number = is.number; calls = is.calls; rows = is.rows; mine = is.mine; columns = is.columns; begun = is.begun }
loaded_any (b ∷ bs) old new o is = (is.0, is.1, loaded_any bs is.0 new o is.2)

-- ---- what is known of a worker before and after it loaded

-- The names and the stored types of the batch's fields were those of the table when it was added, between what was known before
-- and what is known since; and its rows were rows of these.
pub record IsAlike (old new : Known) (b : Batch) : Type 0 where
  pub fields : List FieldShape
  pub begun : IsPrefix old.fields fields
  pub ended : IsPrefix fields new.fields
  pub same : difference fields b.fields ≡ None
  pub shaped : IsTableOf fields (rows_of b)

pub record HasLoaded (bs : List Batch) (old new : Hand) : Type 0 where
  pub number : new.number ≡ old.number
  pub mine : new.mine ≡ widened (length new.seen.fields) (old.mine ++ pairs_of old.number bs)
  pub columns : new.columns ≡ old.columns
  pub begun : IsBeginning old.seen new.seen
  pub alike : All (IsAlike old.seen new.seen) bs

no_difference : (o : Option ℕ) (rest : Option Refusal) → first (option_map (λ c. SchemaDiffers c) o ∷ rest ∷ []) ≡ None → o ≡ None
no_difference None rest none = refl
no_difference (Some c) rest none = absurd (cc none)

pub has_loaded : (bs : List Batch) (old new : Hand) → Loaded bs old new → HasLoaded bs old new
has_loaded [] old new is = record {
  number = is.number;
  mine = is.mine ∙ ap (widened (length new.seen.fields)) (sym (append-nil old.mine));
  columns = is.columns;
  begun = is.begun;
  alike = All-nil (IsAlike old.seen new.seen);
}
has_loaded (b ∷ bs) old new (mid, is, loaded) =
    let rest = has_loaded bs mid new loaded in
    let fields = is.before.fields in
    let n = length new.seen.fields in
    let same : length mid.seen.fields ≡ length fields = ap (λ (fs : List FieldShape). length fs) is.fields in
    let ended : IsPrefix fields new.seen.fields = subst (λ (fs : List FieldShape). IsPrefix fs new.seen.fields) is.fields rest.begun.fields in
    let one : IsBeginning old.seen mid.seen = record {
      fields = subst (λ (fs : List FieldShape). IsPrefix old.seen.fields fs) (sym is.fields) is.begun.fields;
      history = prefix_trans (widened (length mid.seen.fields) old.seen.history) is.before.history mid.seen.history
          (subst (λ m. IsPrefix (widened m old.seen.history) is.before.history) (sym same) is.begun.history)
          ((old.number, rows_of b) ∷ [], sym is.history);
    } in
    record {
      number = rest.number ∙ is.number;
      mine = rw (
        rest.mine,
        is.mine,
        is.number,
        append_assoc (widened (length fields) old.mine) ((old.number, rows_of b) ∷ []) (pairs_of old.number bs),
        widened-append n (widened (length fields) old.mine) (pairs_of old.number (b ∷ bs)),
        widened-again (length fields) n (prefix_length fields new.seen.fields ended) old.mine,
        widened-append n old.mine (pairs_of old.number (b ∷ bs)),
      ) refl;
      columns = rest.columns ∙ is.columns;
      begun = begins_trans old.seen mid.seen new.seen one rest.begun;
      alike = All-cons (IsAlike old.seen new.seen) b bs
          (record {
            fields = fields;
            begun = is.begun.fields;
            ended = ended;
            same = no_difference (difference fields b.fields) (cause fields is.before.history (rows_of b)) is.allowed;
            shaped = subst (λ (fs : List FieldShape). IsTableOf fs (rows_of b)) is.fields
                (last_typed mid.seen.fields is.before.history old.number (rows_of b) (subst (IsLegal mid.seen.fields) is.history is.legal));
          })
          (All-weaker (IsAlike mid.seen new.seen) (IsAlike old.seen new.seen)
          (λ c was. record { fields = was.fields; begun = prefix_trans old.seen.fields mid.seen.fields was.fields one.fields was.begun; ended = was.ended; same = was.same; shaped = was.shaped })
          bs rest.alike);
    }
