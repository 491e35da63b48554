-- What a call leaves in the caller's buffer, by its status.
use Rattle.std.specs.Prelude.{◌≡◌, ◌≢◌, ◌⊎◌, ◌<◌, ◌≤◌, ◌++◌, ℕ, List, [], Option, None, Result, Ok, drop, length, string_bytes}
use Rattle.std.specs.declared.alloc.Global.{Global}
use Rattle.std.specs.declared.string.String.{String}
use Rattle.embed.specs.Prelude.{AreLoadable, NoMemory, RunFault, line_of_fault}

-- The items are at the front of the buffer, whose rest stayed as it was.
pub record IsWritten {A : Type 0} (items old new : List A) (needed : ℕ) : Type 0 where
  pub count : needed ≡ length items
  pub fits : length items ≤ length old
  pub buffer : new ≡ items ++ drop (length items) old

-- The buffer is shorter than the items, and stayed as it was.
pub record IsTooShort {A : Type 0} (items old new : List A) (needed : ℕ) : Type 0 where
  pub count : needed ≡ length items
  pub short : length old < length items
  pub kept : new ≡ old

-- Such items are in the buffer.
abbrev pub IsGiven : {A : Type 0} → (List A → Type 0) → List A → List A → ℕ → Type 0
IsGiven {A} says old new needed = (items : List A) × says items × IsWritten items old new needed

-- The buffer is too short for such items.
abbrev pub HasNoRoom : {A : Type 0} → (List A → Type 0) → List A → List A → ℕ → Type 0
HasNoRoom {A} says old new needed = (items : List A) × says items × IsTooShort items old new needed

-- Nothing was written.
pub record IsKept {A : Type 0} (old new : List A) (needed_old needed_new : ℕ) : Type 0 where
  pub buffer : new ≡ old
  pub needed : needed_new ≡ needed_old

-- What a call leaves that answers this status: the items that it gives, or that tell of a fault; a buffer that is too short for them; or nothing, where memory is wanting.
pub record Leaves {A : Type 0} (gives tells : List A → Type 0) (status : ℕ) (old new : List A) (needed_old needed_new : ℕ) : Type 0 where
  pub given : status ≡ 0 → IsGiven gives old new needed_new
  pub fault : status ≡ 1 → IsGiven tells old new needed_new
  pub short : status ≡ 2 → HasNoRoom (λ items. gives items ⊎ tells items) old new needed_new
  pub memory : status ≡ 3 → IsKept old new needed_old needed_new

-- Status 4, which is answered where nothing is open, and nowhere else: nothing was written.
pub record IsClosed {T A : Type 0} (opened : Option T) (status : ℕ) (old new : List A) (needed_old needed_new : ℕ) : Type 0 where
  pub closed : status ≡ 4 → (opened ≡ None) × IsKept old new needed_old needed_new
  pub none : opened ≡ None → status ≡ 4

-- ---- what is given, and what is told

-- The text of an answer.
abbrev pub IsTextOf : Result (String Global) RunFault → List ℕ → Type 0
IsTextOf answered text = (given : String Global) × (answered ≡ Ok given) × (text ≡ string_bytes given)

-- The line of a fault that stands, and isn't want of memory.
abbrev pub IsLine : (RunFault → Type 0) → List ℕ → Type 0
IsLine stands text = (fault : RunFault) × (fault ≢ NoMemory) × stands fault × (text ≡ line_of_fault fault)

-- No items.
abbrev pub IsNothing : {A : Type 0} → List A → Type 0
IsNothing items = items ≡ []

-- Nothing, where no fault can stand.
abbrev pub Never : {A : Type 0} → List A → Type 0
Never items = ⊥

-- Nothing is said of files that can be loaded into one table.
abbrev pub IsValid : List (List ℕ) → List ℕ → Type 0
IsValid files text = (text ≡ []) × AreLoadable files
