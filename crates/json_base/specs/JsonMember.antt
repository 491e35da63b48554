-- What can be wrong with a document, a member or an item, whatever is to stand there. (RFC 8259)
use Rattle.std.specs.Prelude.{◌≡◌, ◌≢◌, ℕ, List, [], ◌∷◌, length, slice_get, Bool, true, Option, Some, None, is_some, IsSome, IsUtf8}
use Rattle.serde_json.specs.Data.{Data, Items}
use Rattle.serde_json.specs.Find.{get, get_item, as_null, as_array, as_object}
use Rattle.serde_json.specs.Events.{items_len}
use Rattle.serde_json.specs.Read.{read}
use Rattle.json_base.specs.JsonPath.{member_name}
use Rattle.json_base.specs.declared.path.Member.{Member}
use Rattle.json_base.specs.declared.path.Step.{Step}
use Rattle.json_base.specs.declared.path.Step.TheVariants as step
use Rattle.json_base.specs.declared.fault.JsonFaultKind.{JsonFaultKind}
use Rattle.json_base.specs.declared.fault.JsonFaultKind.TheVariants.{NotJson, MissingMember, WrongMember, CountDiffers}

-- The bytes are no UTF-8, or no JSON that is nested at most 127 deep.
pub data NoDocument (bytes : List ℕ) : JsonFaultKind → List Step → Type 0 where
  no_document : (IsUtf8 bytes → read bytes ≡ None) → NoDocument bytes NotJson []

-- The member of an object.
abbrev pub member_of : Member → Data → Option Data
member_of m d = get (member_name m) d

-- The member is absent or null.
abbrev pub is_without : Option Data → Bool
is_without None = true
is_without (Some d) = is_some (as_null d)

abbrev pub IsObject : Data → Type 0
IsObject d = IsSome (as_object d)

-- The value isn't what it is to be.
pub data Unlike {A : Type 0} (wanted : Data → Option A) (d : Data) : JsonFaultKind → List Step → Type 0 where
  unlike : wanted d ≡ None → Unlike wanted d WrongMember []

-- The member isn't there.
pub data Missing (m : Member) (d : Data) : JsonFaultKind → List Step → Type 0 where
  missing : IsObject d → member_of m d ≡ None → Missing m d MissingMember (step.Member m ∷ [])

-- The member isn't there, or what is there is wrong.
pub data MemberFault (m : Member) (Wrong : Data → JsonFaultKind → List Step → Type 0) (d : Data) : JsonFaultKind → List Step → Type 0 where
  absent : (kind : JsonFaultKind) (path : List Step) → Missing m d kind path → MemberFault m Wrong d kind path
  wrong : (e : Data) (kind : JsonFaultKind) (path : List Step) → member_of m d ≡ Some e → Wrong e kind path → MemberFault m Wrong d kind (step.Member m ∷ path)

-- The value isn't an array of n items.
pub data ListFault (n : ℕ) (d : Data) : JsonFaultKind → List Step → Type 0 where
  no_array : as_array d ≡ None → ListFault n d WrongMember []
  length_differs : (ds : Items) → as_array d ≡ Some ds → items_len ds ≢ n → ListFault n d CountDiffers []

-- An item of the array is wrong.
pub data EachFault (Wrong : Data → JsonFaultKind → List Step → Type 0) (ds : Items) : JsonFaultKind → List Step → Type 0 where
  item : (i : ℕ) (e : Data) (kind : JsonFaultKind) (path : List Step) → get_item i ds ≡ Some e → Wrong e kind path → EachFault Wrong ds kind (step.Item i ∷ path)

-- The first n items of an array, one by one.
pub record ReadsFirst {A : Type 0} (Reads : Data → A → Type 0) (ds : Items) (n : ℕ) (xs : List A) : Type 0 where
  pub len : length xs ≡ n
  pub each : (i : ℕ) (d : Data) (x : A) → get_item i ds ≡ Some d → slice_get xs i ≡ Some x → Reads d x

-- All of them.
abbrev pub ReadsEach : {A : Type 0} (Reads : Data → A → Type 0) (ds : Items) (xs : List A) → Type 0
ReadsEach Reads ds xs = ReadsFirst Reads ds (items_len ds) xs
