-- What is open in a handle.
use Rattle.std.specs.Prelude.{◌≡◌, ◌≢◌, ◌⊎◌, ℕ, List, Option, None, Some}
use Rattle.embed.specs.Prelude.{Contents, HoldsFiles, PrintsAnswer, RunFault, StopsAnswer, exported, stats_text}
use Rattle.selqumar.specs.Status.{IsClosed, Leaves}
use Rattle.selqumar.specs.declared.pointee.Pointee.{Pointee}
use Rattle.selqumar.specs.declared.pointee.Pointee.TheVariants.{Table, Snapshot}

-- The table that is open, if one is.
abbrev pub table_in : Option Pointee → Option Contents
table_in (Some (Table t)) = Some t.state
table_in opened = None

-- The snapshot that is open, if one is.
abbrev pub snapshot_in : Option Pointee → Option Contents
snapshot_in (Some (Snapshot s)) = Some s.version
snapshot_in opened = None

-- There is one, of which this holds.
abbrev pub OfOpen : (Contents → Type 0) → Option Contents → Type 0
OfOpen holds None = ⊥
OfOpen holds (Some t) = holds t

-- The table that was open has become the one that is.
abbrev pub Became : (Contents → Contents → Type 0) → Option Contents → Option Contents → Type 0
Became change old new = OfOpen (λ before. OfOpen (change before) new) old

-- It is the one of these texts' files.
abbrev pub IsOpenOver : List (List ℕ) → Option Contents → Type 0
IsOpenOver texts table = OfOpen (λ t. HoldsFiles texts t.fields t.history) table

-- ---- what a call says of it

-- The text is what `stats` prints of it, for so many workers.
abbrev pub IsStatsOf : ℕ → Contents → List ℕ → Type 0
IsStatsOf workers t text = text ≡ stats_text workers t.fields t.history

-- The text is what `export` prints of it.
abbrev pub IsExportOf : Contents → List ℕ → Type 0
IsExportOf t text = text ≡ exported t.fields t.history

-- The text is what `query` prints of it.
abbrev pub IsAnswerOf : List ℕ → Contents → List ℕ → Type 0
IsAnswerOf query t text = PrintsAnswer query t.fields t.history text

-- The fault of a query over it.
abbrev pub StopsAnswerOf : List ℕ → Contents → RunFault → Type 0
StopsAnswerOf query t fault = StopsAnswer query t.fields t.history fault

-- What a call leaves that asks what is open: what it gives or tells of that, or status 4.
pub record Asks {A : Type 0} (opened : Option Contents) (gives tells : Contents → List A → Type 0) (status : ℕ) (old new : List A) (needed_old needed_new : ℕ) : Type 0 where
  pub leaves : Leaves (λ items. OfOpen (λ t. gives t items) opened) (λ items. OfOpen (λ t. tells t items) opened) status old new needed_old needed_new
  pub closed : IsClosed opened status old new needed_old needed_new

-- The status of a call that opens a snapshot of what this handle or that has, in place of what was open: 3 where memory is wanting, 4 where there
-- is nothing, and nowhere else.
pub record Opens (given : Option Contents) (status : ℕ) (old new : Option Pointee) : Type 0 where
  pub known : (status ≡ 0) ⊎ ((status ≡ 3) ⊎ (status ≡ 4))
  pub opened : status ≡ 0 → snapshot_in new ≡ given
  pub kept : status ≢ 0 → new ≡ old
  pub closed : status ≡ 4 → given ≡ None
  pub none : given ≡ None → status ≡ 4
