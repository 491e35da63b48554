-- Why a fault that is reported stands: one lemma for each way in which it came about.
use Rattle.std.proofs.Common.{◌≡◌, inl, inr, ◌∙◌, ℕ, ◌<◌, length, get_or, List, [], ◌∷◌, Option, Some, None, IsUtf8, sym, ap, subst}
use Rattle.serde_json.specs.Data.{Data, Items}
use Rattle.serde_json.specs.Find.{get_item}
use Rattle.serde_json.specs.Read.{read}
use Rattle.serde_json.proofs.Views.{items_len-items_view, get_item_within}
use Rattle.serde_json.specs.View.{view, items_view}
use Rattle.serde_json.specs.declared.value.Value.{Value}
use Rattle.json_base.specs.declared.path.Member.{Member}
use Rattle.json_base.specs.declared.path.Step.{Step}
use Rattle.json_base.specs.declared.path.Step.TheVariants as step
use Rattle.json_base.specs.declared.fault.JsonFault.{JsonFault}
use Rattle.json_base.specs.declared.fault.JsonFaultKind.{JsonFaultKind}
use Rattle.json_base.specs.declared.fault.JsonFaultKind.TheVariants.{NotJson, MissingMember, WrongMember}
use Rattle.json_base.specs.FaultAt.{no_memory, IsFault, IsUnder, Tells, stands, wants}
use Rattle.json_base.specs.JsonMember.{NoDocument, no_document, member_of, IsObject, Unlike, unlike, Missing, missing, MemberFault, absent, wrong, EachFault, item}

-- a fault made at a place stands if that kind stands there
pub tells_at : (S : JsonFaultKind → List Step → Type 0) (k : JsonFaultKind) (p : List Step) (f : JsonFault) → S k p → IsFault k p f → Tells S f
tells_at S k p f s (inl e) = let P : JsonFault → Type 0 = λ g. S g.kind g.path in stands (subst P (sym e) s)
tells_at S k p f s (inr e) = wants e

-- a fault that stands for one thing stands for another
pub tells_as : (S R : JsonFaultKind → List Step → Type 0) (f : JsonFault) → ((k : JsonFaultKind) (p : List Step) → S k p → R k p) → Tells S f → Tells R f
tells_as S R f h (stands s) = stands (h f.kind f.path s)
tells_as S R f h (wants e) = wants e

-- a fault that stands for one thing stands for another, one step above
pub tells_under : (S R : JsonFaultKind → List Step → Type 0) (x : Step) (f g : JsonFault) → ((k : JsonFaultKind) (p : List Step) → S k p → R k (x ∷ p)) → Tells S f → IsUnder x f g → Tells R g
tells_under S R x f g h t (inr e) = wants e
tells_under S R x f g h (stands s) (inl e) = let P : JsonFault → Type 0 = λ a. R a.kind a.path in stands (subst P (sym e.1) (h f.kind f.path s))
tells_under S R x f g h (wants w) (inl e) = absurd (e.0 (ap (λ a. a.kind) w))

pub tells_unlike : {A : Type 0} (wanted : Data → Option A) (d : Data) (f : JsonFault) → wanted d ≡ None → IsFault WrongMember [] f → Tells (Unlike wanted d) f
tells_unlike wanted d f h is = tells_at (Unlike wanted d) WrongMember [] f (unlike h) is

pub tells_missing : (m : Member) (d : Data) (f : JsonFault) → IsObject d → member_of m d ≡ None → IsFault MissingMember (step.Member m ∷ []) f → Tells (Missing m d) f
tells_missing m d f o h is = tells_at (Missing m d) MissingMember (step.Member m ∷ []) f (missing o h) is

pub tells_absent : (m : Member) (W : Data → JsonFaultKind → List Step → Type 0) (d : Data) (f : JsonFault) → Tells (Missing m d) f → Tells (MemberFault m W d) f
tells_absent m W d f t = tells_as (Missing m d) (MemberFault m W d) f (λ k p h. absent k p h) t

pub tells_unlike_member : {A : Type 0} (wanted : Data → Option A) (m : Member) (d : Data) (f : JsonFault) (e : Data) → member_of m d ≡ Some e → wanted e ≡ None
    → IsFault WrongMember (step.Member m ∷ []) f → Tells (MemberFault m (Unlike wanted) d) f
tells_unlike_member wanted m d f e at h is = tells_at (MemberFault m (Unlike wanted) d) WrongMember (step.Member m ∷ []) f (wrong e WrongMember [] at (unlike h)) is

pub tells_wants : (S : JsonFaultKind → List Step → Type 0) (f : JsonFault) → f ≡ no_memory → Tells S f
tells_wants S f h = wants h

pub tells_item : (W : Data → JsonFaultKind → List Step → Type 0) (ds : Items) (i : ℕ) (e : Data) (f g : JsonFault) → Tells (W e) f → get_item i ds ≡ Some e → IsUnder (step.Item i) f g
    → Tells (EachFault W ds) g
tells_item W ds i e f g t at up = tells_under (W e) (EachFault W ds) (step.Item i) f g (λ k p h. item i e k p at h) t up

pub tells_item_at : (W : Data → JsonFaultKind → List Step → Type 0) (vs : List Value) (i : ℕ) (v : Value) (f g : JsonFault) → Tells (W (view v)) f → i < length vs → v ≡ get_or vs i v
    → IsUnder (step.Item i) f g → Tells (EachFault W (items_view vs)) g
tells_item_at W vs i v f g t within is up = tells_item W (items_view vs) i (view v) f g t (sym (get_item_within vs i v within) ∙ ap (λ w. Some (view w)) (sym is)) up

pub tells_no_document : (bytes : List ℕ) (f : JsonFault) → (IsUtf8 bytes → read bytes ≡ None) → IsFault NotJson [] f → Tells (NoDocument bytes) f
tells_no_document bytes f h is = tells_at (NoDocument bytes) NotJson [] f (no_document h) is

pub ruleset reported = (tells_unlike, tells_missing, tells_absent, tells_unlike_member)

pub ruleset document_faults = (tells_no_document, tells_wants)

pub ruleset lengths = (items_len-items_view)
