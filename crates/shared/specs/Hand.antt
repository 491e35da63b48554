-- What a worker shows of itself.
use Rattle.std.specs.Prelude.{◌≡◌, ℕ, ◌+◌, ◌<◌, ◌++◌, List, [], ◌∷◌, Option, None, length, refl, ⊤}
use Rattle.std.specs.Coded.{Coded, code_by, coded_ℕ, coded_option, coded×}
use Rattle.arrays.specs.Prelude.{Batch, FieldShape, Table, rows_of}
use Rattle.shared.specs.Code.{history_code}
use Rattle.shared.specs.Known.{IsBeginning, IsLegalKnown, Known, known_code, with_column}
use Rattle.shared.specs.Left.{Left, left_code}
use Rattle.shared.specs.Parts.{InOrder}
use Rattle.table.specs.Prelude.{History, batch_cause, of, rows, widened}

-- Its number, the fields and the history that it has seen, the pairs that it added itself, under these fields, how many columns it
-- added, and what was left with it.
pub record Hand : Type 0 where
  pub number : ℕ
  pub seen : Known
  pub mine : History
  pub columns : ℕ
  pub left : Option Left

abbrev pub hand_code : Coded Hand
hand_code =
    code_by (ℕ × (Known × (History × (ℕ × Option Left))))
    (coded× coded_ℕ (coded× known_code (coded× history_code (coded× coded_ℕ (coded_option left_code)))))
    (λ h. (h.number, (h.seen, (h.mine, (h.columns, h.left)))))
    (λ p. record { number = p.0; seen = p.1.0; mine = p.1.1.0; columns = p.1.1.1.0; left = p.1.1.1.1 })
    (λ _. refl)

-- How many of its calls were accepted.
abbrev pub calls_of_hand : Hand → ℕ
calls_of_hand h = length h.mine

-- How many rows they added.
abbrev pub rows_of_hand : Hand → ℕ
rows_of_hand h = length (rows h.mine)

-- How many columns it added.
abbrev pub columns_of_hand : Hand → ℕ
columns_of_hand h = h.columns

-- It added nothing yet, has seen no more than the fields, and nothing is left with it.
pub record IsNew (fields : List FieldShape) (number : ℕ) (h : Hand) : Type 0 where
  pub numbered : h.number ≡ number
  pub seen : h.seen ≡ record { fields = fields; history = [] }
  pub mine : h.mine ≡ []
  pub columns : h.columns ≡ 0
  pub left : h.left ≡ None

-- They are new, and numbered one after the other from the first number on.
abbrev pub AreNew : List FieldShape → ℕ → List Hand → Type 0
AreNew fields first [] = ⊤
AreNew fields first (h ∷ rest) = IsNew fields first h × AreNew fields (first + 1) rest

-- It appended so many rows more, by one call.
pub record IsRaised (added : ℕ) (old new : Hand) : Type 0 where
  pub number : new.number ≡ old.number
  pub calls : calls_of_hand new ≡ calls_of_hand old + 1
  pub rows : rows_of_hand new ≡ rows_of_hand old + added
  pub columns : new.columns ≡ old.columns
  pub left : new.left ≡ old.left

-- It added nothing more.
pub record HasAddedNothing (old new : Hand) : Type 0 where
  pub number : new.number ≡ old.number
  pub calls : calls_of_hand new ≡ calls_of_hand old
  pub rows : rows_of_hand new ≡ rows_of_hand old
  pub columns : new.columns ≡ old.columns
  pub left : new.left ≡ old.left

-- This is left with it, and nothing else is changed.
pub record IsLeft (left : Option Left) (old new : Hand) : Type 0 where
  pub number : new.number ≡ old.number
  pub seen : new.seen ≡ old.seen
  pub mine : new.mine ≡ old.mine
  pub columns : new.columns ≡ old.columns
  pub rest : new.left ≡ left

-- The worker with this seen.
abbrev pub having_seen : Known → Hand → Hand
having_seen k w = record { number = w.number; seen = k; mine = widened (length k.fields) w.mine; columns = w.columns; left = w.left }

-- The worker with a table of its own behind all that it has seen.
abbrev pub having_added : Table → Hand → Hand
having_added t w = record {
  number = w.number;
  seen = record { fields = w.seen.fields; history = w.seen.history ++ (w.number, t) ∷ [] };
  mine = w.mine ++ (w.number, t) ∷ [];
  columns = w.columns;
  left = w.left;
}

-- The worker with one column more that it added.
abbrev pub having_counted : Hand → Hand
having_counted w = record { number = w.number; seen = w.seen; mine = w.mine; columns = w.columns + 1; left = w.left }

-- It has seen what begins with what it had seen and is legal, and did nothing else.
pub record HasSeen (old new : Hand) : Type 0 where
  pub number : new.number ≡ old.number
  pub begun : IsBeginning old.seen new.seen
  pub legal : IsLegalKnown new.seen
  pub mine : new.mine ≡ widened (length new.seen.fields) old.mine
  pub columns : new.columns ≡ old.columns
  pub left : new.left ≡ old.left

-- It added the batch behind a history that begins with all that it had seen. Nothing stood against the batch there.
pub record HasAdded (b : Batch) (old new : Hand) : Type 0 where
  pub number : new.number ≡ old.number
  pub before : Known
  pub begun : IsBeginning old.seen before
  pub allowed : batch_cause before.fields before.history b ≡ None
  pub fields : new.seen.fields ≡ before.fields
  pub history : new.seen.history ≡ before.history ++ (old.number, rows_of b) ∷ []
  pub legal : IsLegalKnown new.seen
  pub mine : new.mine ≡ widened (length before.fields) old.mine ++ (old.number, rows_of b) ∷ []
  pub columns : new.columns ≡ old.columns
  pub left : new.left ≡ old.left

-- It added a column of the field behind what begins with all that it had seen and is legal, and nothing else.
pub record HasWidened (f : FieldShape) (old new : Hand) : Type 0 where
  pub number : new.number ≡ old.number
  pub before : Known
  pub begun : IsBeginning old.seen before
  pub stood : IsLegalKnown before
  pub seen : new.seen ≡ with_column before f
  pub legal : IsLegalKnown new.seen
  pub mine : new.mine ≡ widened (length new.seen.fields) old.mine
  pub columns : new.columns ≡ old.columns + 1
  pub left : new.left ≡ old.left

-- It is one of so many workers of a table: what it has seen begins what is known, and its pairs stand there in their order.
pub record IsWorkerOf (count : ℕ) (k : Known) (w : Hand) : Type 0 where
  pub below : w.number < count
  pub begun : IsBeginning w.seen k
  pub ordered : InOrder (widened (length k.fields) w.mine) (of k.history w.number)

-- What it has seen begins what is known, and its pairs there are those that it added.
pub record HasAllItsPairs (k : Known) (w : Hand) : Type 0 where
  pub begun : IsBeginning w.seen k
  pub whole : of k.history w.number ≡ widened (length k.fields) w.mine
