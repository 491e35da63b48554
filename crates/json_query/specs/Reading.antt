-- What is read of a document: a value, or the faults that stand. Readings are put together from parts.
use Rattle.std.specs.Prelude.{ℕ, ◌+◌, List, [], ◌∷◌, ◌++◌, map, Bool, if◌then◌else◌, Option, is_some, option_and_then, Result, Ok, Err, ok_or, Contains}
use Rattle.json_base.specs.Prelude.{Data, Items, as_array, as_object, as_str, fault_at, item, member_of, no_items}
use Rattle.json_base.specs.declared.path.Member.{Member}
use Rattle.json_base.specs.declared.path.Step.{Step}
use Rattle.json_base.specs.declared.path.Step.TheVariants as step
use Rattle.json_base.specs.declared.fault.JsonFault.{JsonFault}
use Rattle.json_base.specs.declared.fault.JsonFaultKind.{JsonFaultKind}
use Rattle.json_base.specs.declared.fault.JsonFaultKind.TheVariants.{MissingMember, WrongMember}

abbrev pub JsonReading : Type 0 → Type 0
JsonReading A = Result A (List JsonFault)

abbrev pub faults_of : {A : Type 0} → JsonReading A → List JsonFault
faults_of (Ok x) = []
faults_of (Err faults) = faults

-- The fault is one of them; any of them may be reported.
pub record MayReport {A : Type 0} (r : JsonReading A) (kind : JsonFaultKind) (path : List Step) : Type 0 where
  pub listed : Contains (faults_of r) (fault_at kind path)

-- ---- readings of one and of several things

-- A thing that must be there, or this fault.
abbrev pub wanted : {A : Type 0} → JsonFaultKind → List Step → Option A → JsonReading A
wanted kind path o = ok_or o (fault_at kind path ∷ [])

-- One reading, and then another that depends on it.
abbrev pub chain : {A B : Type 0} → JsonReading A → (A → JsonReading B) → JsonReading B
chain (Ok x) next = next x
chain (Err faults) next = Err faults

abbrev pub mapped : {A B : Type 0} → (A → B) → JsonReading A → JsonReading B
mapped f r = chain r (λ x. Ok (f x))

-- Two readings, neither of which depends on the other.
abbrev pub both : {A B C : Type 0} → (A → B → C) → JsonReading A → JsonReading B → JsonReading C
both f (Ok x) r = mapped (f x) r
both f (Err faults) r = Err (faults ++ faults_of r)

-- A reading, seen from one step above.
abbrev pub under : {A : Type 0} → Step → JsonReading A → JsonReading A
under step (Ok x) = Ok x
under step (Err faults) = Err (map (λ f. fault_at f.kind (step ∷ f.path)) faults)

-- A reading of what must pass a test: its faults stand beside that of the test.
abbrev pub tested : {A : Type 0} → Bool → JsonReading A → JsonReading A
tested test r = if test then r else Err (fault_at WrongMember [] ∷ faults_of r)

-- ---- readings of values

-- A reading of what must be an object.
abbrev pub if_object : {A : Type 0} → Data → JsonReading A → JsonReading A
if_object d r = if is_some (as_object d) then r else Err (fault_at WrongMember [] ∷ [])

-- What a member of an object is, or its one fault: that it is missing, or this one, where it is another thing.
abbrev pub required : {A : Type 0} → Member → JsonFaultKind → (Data → Option A) → Data → JsonReading A
required m kind what d = wanted (if is_some (member_of m d) then kind else MissingMember) (step.Member m ∷ []) (option_and_then what (member_of m d))

abbrev pub text_in : Member → Data → JsonReading (List ℕ)
text_in m d = required m WrongMember as_str d

abbrev pub array_in : Member → Data → JsonReading Items
array_in m d = required m WrongMember as_array d

-- What is read of the items of an array in the member.
abbrev pub items : {A : Type 0} → Member → JsonReading Items → (Items → JsonReading A) → JsonReading A
items m found r = chain found (λ ds. under (step.Member m) (r ds))

-- The items one by one, of which the first is the n-th.
abbrev pub each_from : {A : Type 0} → ℕ → (Data → JsonReading A) → Items → JsonReading (List A)
each_from n r no_items = Ok []
each_from n r (item d ds) = both (λ x xs. x ∷ xs) (under (step.Item n) (r d)) (each_from (n + 1) r ds)

abbrev pub each_item : {A : Type 0} → (Data → JsonReading A) → Items → JsonReading (List A)
each_item r ds = each_from 0 r ds
