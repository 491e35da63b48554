-- What a member says of an object, and where a fault of members or items stands, nothing is read.
use Rattle.std.proofs.Common.{◌≡◌, ◌∙◌, ℕ, zero, suc, ◌<◌, List, [], ◌∷◌, length, Option, Some, None, option_and_then, refl, sym, ap, subst, arith}
use Rattle.std.proofs.lemmas.Bool.{false≢true}
use Rattle.std.specs.List.{slice_get}
use Rattle.std.proofs.lemmas.Option.{slice_get_within}
use Rattle.serde_json.specs.Data as data'
use Rattle.serde_json.specs.Data.{Data, Items, no_items, item}
use Rattle.serde_json.specs.Find.{get_item, as_null, as_object}
use Rattle.serde_json.specs.Events.{items_len}
use Rattle.json_base.specs.declared.path.Member.{Member}
use Rattle.json_base.specs.declared.path.Step.{Step}
use Rattle.json_base.specs.declared.fault.JsonFaultKind.{JsonFaultKind}
use Rattle.json_base.specs.JsonMember as at
use Rattle.json_base.specs.JsonMember.{IsObject, member_of, Unlike, unlike, Missing, missing, MemberFault, absent, wrong, EachFault, ReadsEach}
use Rattle.json_base.proofs.JsonItems.{get_item_some}

-- what has a member is an object
pub has_object : {A : Type 0} (w : Data → Option A) (m : Member) (d : Data) (x : A) → option_and_then w (member_of m d) ≡ Some x → IsObject d
has_object w m data'.null x h = absurd cc
has_object w m (data'.boolean b) x h = absurd cc
has_object w m (data'.number n) x h = absurd cc
has_object w m (data'.string s) x h = absurd cc
has_object w m (data'.array ds) x h = absurd cc
has_object w m (data'.object ms) x h = refl

-- an object isn't null
pub no_null : (e : Data) → IsObject e → as_null e ≡ None
no_null data'.null h = absurd (false≢true h)
no_null (data'.boolean b) h = refl
no_null (data'.number n) h = refl
no_null (data'.string s) h = refl
no_null (data'.array ds) h = refl
no_null (data'.object ms) h = refl

-- the first byte of a name
abbrev pub head : List ℕ → ℕ
head [] = 0
head (x ∷ xs) = x

pub inner : {A B : Type 0} (f : A → Option B) (o : Option A) (y : B) → option_and_then f o ≡ Some y → (x : A) × (o ≡ Some x) × (f x ≡ Some y)
inner f None y h = absurd cc
inner f (Some x) y h = (x, refl, h)

-- what has a member is an object
pub no_object : {A : Type 0} (w : Data → Option A) (m : Member) (d : Data) (x : A) → option_and_then w (member_of m d) ≡ Some x → as_object d ≡ None → ⊥
no_object w m data'.null x h e = cc
no_object w m (data'.boolean b) x h e = cc
no_object w m (data'.number n) x h e = cc
no_object w m (data'.string s) x h e = cc
no_object w m (data'.array ds) x h e = cc
no_object w m (data'.object ms) x h e = cc

pub not_unlike : {A : Type 0} (w : Data → Option A) (d : Data) (k : JsonFaultKind) (p : List Step) → Unlike w d k p → w d ≡ None
not_unlike w d k p (unlike h) = h

pub no_missing : (m : Member) (d : Data) (k : JsonFaultKind) (p : List Step) → Missing m d k p → member_of m d ≡ None
no_missing m d k p (missing o h) = h

-- a member that is what it is to be
pub no_member : {A : Type 0} (w : Data → Option A) (m : Member) (d : Data) (x : A) (k : JsonFaultKind) (p : List Step) → option_and_then w (member_of m d) ≡ Some x → MemberFault m (Unlike w) d k p → ⊥
no_member w m d x k p h (absent k' p' a) =
    let e = no_missing m d k p a in
    let i = inner w (member_of m d) x h in
    cc (e, i.1)
no_member w m d x k p h (wrong e k' p' found u) =
    let i = inner w (member_of m d) x h in
    let none = not_unlike w e _ _ u in
    let same : e ≡ i.0 = cc (found, i.1) in
    cc (ap w same, none, i.2)

-- a member under which a thing stands that has no fault
pub under_law : (m : Member) (W : Data → JsonFaultKind → List Step → Type 0) (d e : Data) (k : JsonFaultKind) (p : List Step) → member_of m d ≡ Some e
    → ((k : JsonFaultKind) (p : List Step) → W e k p → ⊥) → MemberFault m W d k p → ⊥
under_law m W d e k p found law (absent k' p' a) = cc (found, no_missing m d k p a)
under_law m W d e k p found law (wrong g k' p' at w) =
    let same : g ≡ e = cc (found, at) in
    law k' p' (subst (λ x. W x k' p') same w)

pub get_item-within : (ds : Items) (i : ℕ) (d : Data) → get_item i ds ≡ Some d → i < items_len ds
get_item-within no_items i d h = absurd cc
get_item-within (item e ds) zero d h = omega arith
get_item-within (item e ds) (suc i) d h = omega (arith, get_item-within ds i d h)

pub slice_get_some : {A : Type 0} (xs : List A) (i : ℕ) → i < length xs → (x : A) × (slice_get xs i ≡ Some x)
slice_get_some [] i h = absurd (omega arith)
slice_get_some (x ∷ xs) zero h = (x, refl)
slice_get_some (x ∷ xs) (suc i) h = slice_get_some xs i (omega arith)

pub each_law : {A : Type 0} (R : Data → A → Type 0) (W : Data → JsonFaultKind → List Step → Type 0) (ds : Items) (xs : List A) (k : JsonFaultKind) (p : List Step) → ReadsEach R ds xs
    → ((d : Data) (x : A) (k : JsonFaultKind) (p : List Step) → R d x → W d k p → ⊥) → EachFault W ds k p → ⊥
each_law R W ds xs k p h law (at.item i e k' p' found w) =
    let x = slice_get_some xs i (omega (arith, get_item-within ds i e found, h.len)) in
    law e x.0 _ _ (h.each i e x.0 found x.1) w

pub same_lists : {A : Type 0} (xs ys : List A) → length xs ≡ length ys → ((i : ℕ) (x y : A) → slice_get xs i ≡ Some x → slice_get ys i ≡ Some y → x ≡ y) → xs ≡ ys
same_lists [] [] len h = refl
same_lists [] (y ∷ ys) len h = absurd (omega arith)
same_lists (x ∷ xs) [] len h = absurd (omega arith)
same_lists (x ∷ xs) (y ∷ ys) len h =
    ap (λ a. a ∷ xs) (h 0 x y refl refl) ∙ ap (λ l. y ∷ l) (same_lists xs ys (omega arith) (λ i a b at at'. h (suc i) a b at at'))

-- two readings of the items of one array are one, if those of each item are
pub same_each : {A : Type 0} (R : Data → A → Type 0) (ds : Items) (xs ys : List A) → ((d : Data) (x y : A) → R d x → R d y → x ≡ y) → ReadsEach R ds xs → ReadsEach R ds ys → xs ≡ ys
same_each R ds xs ys law h g =
    same_lists xs ys (h.len ∙ sym g.len)
    (λ i x y at at'.
    let d = get_item_some ds i (omega (arith, slice_get_within xs i x at, h.len)) in
    law d.0 x y (h.each i d.0 x d.1 at) (g.each i d.0 y d.1 at'))
