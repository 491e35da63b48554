-- What is reported of the workers' outcomes.
use Rattle.std.specs.Prelude.{◌≡◌, ◌≢◌, ◌⊎◌, ◌≤◌, All, IfSome, List, Option, None, Some}
use Rattle.std.specs.List.{Any, filter_map, zip}
use Rattle.arrays.specs.Batch.{Batch}
use Rattle.shared.specs.Prelude.{Hand, Known, Left, calls_of_hand}
use Rattle.shared.specs.Refusals as refusal
use Rattle.loads.specs.Loaded.{AreRun, Stop, seen_since}
use Rattle.loads.specs.declared.fault.LoadFault.{LoadFault}
use Rattle.loads.specs.declared.fault.LoadFault.TheVariants.{NoMemory, Refused}

-- The receipts of the last batches, without those who have none.
abbrev pub last_receipts : List Left → List Known
last_receipts outcomes = filter_map (λ o. o.last) outcomes

abbrev pub IsWantOfMemory : Stop → Type 0
IsWantOfMemory s = s.2 ≡ refusal.NoMemory

-- A worker was stopped so, and not for want of memory; who was stopped in a lesser file was for want of memory.
pub record IsLeastReported (stop : Stop) (outcomes : List Left) : Type 0 where
  pub known : stop.2 ≢ refusal.NoMemory
  pub met : Any (λ o. o.stop ≡ Some stop) outcomes
  pub least : All (λ o. IfSome o.stop (λ s. IsWantOfMemory s ⊎ (stop.0 ≤ s.0))) outcomes

-- The least such stop; none, where nobody was stopped but for want of memory.
abbrev pub IsLeastStopOf : Option Stop → List Left → Type 0
IsLeastStopOf None outcomes = All (λ o. IfSome o.stop IsWantOfMemory) outcomes
IsLeastStopOf (Some stop) outcomes = IsLeastReported stop outcomes

-- A worker was stopped, and nobody but for want of memory.
pub record LacksMemory (outcomes : List Left) : Type 0 where
  pub met : Any (λ o. o.stop ≢ None) outcomes
  pub all : All (λ o. IfSome o.stop IsWantOfMemory) outcomes

-- What is to be reported of the outcomes.
abbrev pub IsReportOf : LoadFault → List Left → Type 0
IsReportOf (Refused file batch refusal) outcomes = IsLeastReported (file, batch, refusal) outcomes
IsReportOf NoMemory outcomes = LacksMemory outcomes

-- Nobody was stopped.
abbrev pub AllFinished : List Left → Type 0
AllFinished outcomes = All (λ o. o.stop ≡ None) outcomes

-- What stands against loading: what the outcomes tell, or that there was no room for the answer and nothing was begun.
abbrev pub StandsAgainstLoading : LoadFault → List (List Batch) → List Hand → List Hand → Type 0
StandsAgainstLoading fault files old new = ((outcomes : List Left) × AreRun files old new outcomes × IsReportOf fault outcomes) ⊎ ((fault ≡ NoMemory) × (new ≡ old))

-- The receipts are the last of each worker that appended, in order.
abbrev pub AreReceipts : List Known → List (List Batch) → List Hand → List Hand → Type 0
AreReceipts receipts files old new = (outcomes : List Left) × AreRun files old new outcomes × (receipts ≡ last_receipts outcomes)

-- The receipts are of all that the workers that appended have seen, in order.
abbrev pub AreNewest : List Known → List Hand → List Hand → Type 0
AreNewest receipts old new = receipts ≡ filter_map (λ p. seen_since (calls_of_hand p.0) p.1) (zip old new)
