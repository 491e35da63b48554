-- How far workers come through their files.
use Rattle.std.specs.Prelude.{◌≡◌, ◌⊎◌, ℕ, ◌%◌, ◌<◌, ◌++◌, IfSome, List, [], ◌∷◌, length, map, slice_get, slice_index_or, take, Option, None, Some, is_some, nat_lt, if◌then◌else◌, unwrap_or}
use Rattle.arrays.specs.Prelude.{Batch, FieldShape, File, rows_of}
use Rattle.shared.specs.Prelude.{Hand, HasAdded, History, IsBeginning, Known, Left, Refusal, batch_cause, calls_of_hand, rows_of_hand, stored_fields, widened}
use Rattle.shared.specs.Refusals.{NoMemory}
use Rattle.loads.specs.Plan.{planned}

-- The batches of each file, in order.
abbrev pub batches_of_files : List File → List (List Batch)
batches_of_files files = map (λ f. f.batches) files

-- The fields of the table that files are loaded into: those of the first, as they are stored.
abbrev pub fields_for : List File → List FieldShape
fields_for [] = []
fields_for (file ∷ files) = stored_fields file.fields

-- Batches as the pairs that a worker adds.
abbrev pub pairs_of : ℕ → List Batch → History
pairs_of worker bs = map (λ b. (worker, rows_of b)) bs

-- It appended nothing, and may have seen more.
pub record IsIdle (old new : Hand) : Type 0 where
  pub number : new.number ≡ old.number
  pub calls : calls_of_hand new ≡ calls_of_hand old
  pub rows : rows_of_hand new ≡ rows_of_hand old
  pub mine : new.mine ≡ widened (length new.seen.fields) old.mine
  pub columns : new.columns ≡ old.columns
  pub begun : IsBeginning old.seen new.seen

-- It appended these batches, each by a call of its own, and nothing else: nothing stood against a batch by the fields and the
-- history that the table had at that call, and they are behind all that it had seen before.
abbrev pub Loaded : List Batch → Hand → Hand → Type 0
Loaded [] old new = IsIdle old new
Loaded (b ∷ bs) old new = (mid : Hand) × HasAdded b old mid × Loaded bs mid new

-- It appended these batches: what it loads from then on is loaded behind them.
abbrev pub HasAppended : List Batch → Hand → Hand → Type 0
HasAppended bs old mid = (more : List Batch) (new : Hand) → Loaded more mid new → Loaded (bs ++ more) old new

-- Want of memory is reported, or what stands for the batch after all that is known.
abbrev pub StandsFor : Known → Batch → Refusal → Type 0
StandsFor k b refusal = (refusal ≡ NoMemory) ⊎ (batch_cause k.fields k.history b ≡ Some refusal)

-- Where it was stopped: the file, the batch in it, and the refusal.
abbrev pub Stop : Type 0
Stop = ℕ × ℕ × Refusal

-- What stands in its plan before the batch that stopped it; the whole plan where nothing did.
abbrev pub before_stop : List (List Batch) → ℕ → ℕ → Option Stop → List Batch
before_stop files workers place None = planned files workers place
before_stop files workers place (Some s) = planned (take s.0 files) workers place ++ take s.1 (slice_index_or files s.0 [])

-- The batch that stopped it is there, in one of its files, and what was reported stands for it after all that it has seen.
pub record IsStoppedAt (files : List (List Batch)) (workers place : ℕ) (seen : Known) (s : Stop) : Type 0 where
  pub file : s.0 < length files
  pub own : s.0 % workers ≡ place
  pub batch : Batch
  pub there : slice_get (slice_index_or files s.0 []) s.1 ≡ Some batch
  pub stands : StandsFor seen batch s.2

-- It has a last receipt exactly where it appended anything since it had so many calls.
abbrev pub HasLast : ℕ → Hand → Option Known → Type 0
HasLast first h last = is_some last ≡ nat_lt first (calls_of_hand h)

-- All that it has seen, where it appended anything since it had so many calls.
abbrev pub seen_since : ℕ → Hand → Option Known
seen_since first h = if nat_lt first (calls_of_hand h) then Some h.seen else None

-- What is left with it, or else an outcome without receipt and without stop.
abbrev pub outcome_of : Hand → Left
outcome_of h = unwrap_or h.left (record { last = None; stop = None })

-- A worker came as far as the outcome tells.
pub record IsRun (files : List (List Batch)) (workers place : ℕ) (old new : Hand) (outcome : Left) : Type 0 where
  pub stopped : IfSome outcome.stop (IsStoppedAt files workers place new.seen)
  pub loaded : Loaded (before_stop files workers place outcome.stop) old new
  pub last : HasLast (calls_of_hand old) new outcome.last
  pub newest : outcome.stop ≡ None → outcome.last ≡ seen_since (calls_of_hand old) new

-- Each worker came as far as its outcome tells, and nothing is left with it.
pub record AreRun (files : List (List Batch)) (old new : List Hand) (outcomes : List Left) : Type 0 where
  pub count : length outcomes ≡ length old
  pub kept : length new ≡ length old
  pub each : (place : ℕ) (d : Hand) (o : Left) → place < length old
      → IsRun files (length old) place (slice_index_or old place d) (slice_index_or new place d) (slice_index_or outcomes place o)
  pub left : (place : ℕ) (d : Hand) → place < length old → (slice_index_or new place d).left ≡ None

-- Each worker appended the whole of its list in the plan, and nothing is left with it.
pub record AllLoaded (files : List (List Batch)) (old new : List Hand) : Type 0 where
  pub kept : length new ≡ length old
  pub each : (place : ℕ) (d : Hand) → place < length old → Loaded (planned files (length old) place) (slice_index_or old place d) (slice_index_or new place d)
  pub left : (place : ℕ) (d : Hand) → place < length old → (slice_index_or new place d).left ≡ None
