-- What reading a source to its end comes to.
use Rattle.std.specs.Prelude.{◌≡◌, ℕ, ◌+◌, List, Option, Result, Ok, Err}
use Rattle.std.specs.Io.KnownBytes.{Consumes}
use Rattle.ends.specs.declared.source.SourceFault.{SourceFault}
use Rattle.ends.specs.declared.source.SourceFault.TheVariants.{ReadFailed, NoMemory}

-- the count of failures grows by one where a read failed, and stays otherwise
abbrev pub CountsReads : {A : Type 0} → ℕ → ℕ → Result A SourceFault → Type 0
CountsReads old new (Ok _) = new ≡ old
CountsReads old new (Err ReadFailed) = new ≡ old + 1
CountsReads old new (Err NoMemory) = new ≡ old

-- known bytes lose a front, and keep the rest
abbrev pub LosesFront : Option (List ℕ) → Option (List ℕ) → Type 0
LosesFront old new = (front : List ℕ) × Consumes old new front
