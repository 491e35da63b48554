-- Why a fault of a reading stands, and what is read of one item more.
use Rattle.std.proofs.Common.{◌≡◌, ◌⊎◌, inl, inr, ◌∙◌, ℕ, ◌+◌, ◌<◌, List, [], ◌∷◌, ◌++◌, map, length, get_or, drop, Option, None, Ok, Err, Contains, refl, sym, ap, subst, arith}
use Rattle.std.proofs.lemmas.List.{append-nil, append_assoc, at_drop_more, get_or-map, length-map, map-append}
use Rattle.std.proofs.lemmas.List.Elements.{Contains-append_left, Contains-append_right}
use Rattle.json_base.specs.Prelude.{Data, IsFault, IsUnder, Items, MemberFault, Missing, Tells, Unlike, Value, absent, as_object, fault_at, item, items_view, member_of, missing, no_items, no_memory, unlike, view, wrong}
use Rattle.json_base.specs.FaultAt.{stands, wants}
use Rattle.json_base.specs.declared.path.Member.{Member}
use Rattle.json_base.specs.declared.path.Step.{Step}
use Rattle.json_base.specs.declared.path.Step.TheVariants as step
use Rattle.json_base.specs.declared.fault.JsonFault.{JsonFault}
use Rattle.json_base.specs.declared.fault.JsonFaultKind.{JsonFaultKind}
use Rattle.json_base.specs.declared.fault.JsonFaultKind.TheVariants.{MissingMember, WrongMember}
use Rattle.json_base.proofs.Views.{items_len-items_view}
use Rattle.json_base.proofs.JsonTells.{tells_at, tells_as, tells_under, tells_wants}
use Rattle.json_query.specs.Reading.{JsonReading, faults_of, MayReport, chain, both, under, required, each_from, each_item}

-- ---- which faults stand

-- what stands in one reading stands in another
told : {A B : Type 0} (r : JsonReading A) (s : JsonReading B) (f : JsonFault) → ((g : JsonFault) → Contains (faults_of r) g → Contains (faults_of s) g) → Tells (MayReport r) f → Tells (MayReport s) f
told r s f h t = tells_as (MayReport r) (MayReport s) f (λ k p m. record { listed = h (fault_at k p) m.listed }) t

stands_first : {A B : Type 0} (r : JsonReading A) (next : A → JsonReading B) (g : JsonFault) → Contains (faults_of r) g → Contains (faults_of (chain r next)) g
stands_first (Ok x) next g h = absurd (omega (arith, h.1))
stands_first (Err faults) next g h = h

faults_both : {A B C : Type 0} (f : A → B → C) (r : JsonReading A) (s : JsonReading B) → faults_of r ++ faults_of s ≡ faults_of (both f r s)
faults_both f (Ok x) (Ok y) = refl
faults_both f (Ok x) (Err faults) = refl
faults_both f (Err faults) s = refl

stands_under : {A : Type 0} (s : Step) (r : JsonReading A) (k : JsonFaultKind) (p : List Step) → MayReport r k p → MayReport (under s r) k (s ∷ p)
stands_under s (Ok x) k p h = absurd (omega (arith, h.listed.1))
stands_under s (Err faults) k p h =
    let up : JsonFault → JsonFault = λ f. fault_at f.kind (s ∷ f.path) in
    record { listed = (h.listed.0, omega (arith, h.listed.1, length-map faults up), get_or-map up faults h.listed.0 (fault_at k p) _ h.listed.1 ∙ ap up h.listed.2) }

pub chain_first : {A B : Type 0} (r : JsonReading A) (next : A → JsonReading B) (f : JsonFault) → Tells (MayReport r) f → Tells (MayReport (chain r next)) f
chain_first r next f t = told r (chain r next) f (stands_first r next) t

pub chain_next : {A B : Type 0} (r : JsonReading A) (next : A → JsonReading B) (x : A) (f : JsonFault) → r ≡ Ok x → Tells (MayReport (next x)) f → Tells (MayReport (chain r next)) f
chain_next r next x f is t = subst (λ s. Tells (MayReport (chain s next)) f) (sym is) t

pub both_left : {A B C : Type 0} (g : A → B → C) (r : JsonReading A) (s : JsonReading B) (f : JsonFault) → Tells (MayReport r) f → Tells (MayReport (both g r s)) f
both_left g r s f t = told r (both g r s) f (λ x h. subst (λ l. Contains l x) (faults_both g r s) (Contains-append_left (faults_of r) (faults_of s) x h)) t

pub both_right : {A B C : Type 0} (g : A → B → C) (r : JsonReading A) (s : JsonReading B) (f : JsonFault) → Tells (MayReport s) f → Tells (MayReport (both g r s)) f
both_right g r s f t = told s (both g r s) f (λ x h. subst (λ l. Contains l x) (faults_both g r s) (Contains-append_right (faults_of r) (faults_of s) x h)) t

pub under_told : {A : Type 0} (s : Step) (r : JsonReading A) (f g : JsonFault) → Tells (MayReport r) f → IsUnder s f g → Tells (MayReport (under s r)) g
under_told s r f g t up = tells_under (MayReport r) (MayReport (under s r)) s f g (λ k p h. stands_under s r k p h) t up

pub first_told : {A : Type 0} (k : JsonFaultKind) (p : List Step) (faults : List JsonFault) (f : JsonFault) → IsFault k p f → Tells (MayReport {A = A} (Err (fault_at k p ∷ faults))) f
first_told {A} k p faults f is = tells_at (MayReport {A = A} (Err (fault_at k p ∷ faults))) k p f record { listed = (0, omega arith, refl) } is

-- what a fault that is told of an object or of a member says
unlike_parts : (d : Data) (k : JsonFaultKind) (p : List Step) → Unlike as_object d k p → (as_object d ≡ None) × (fault_at k p ≡ fault_at WrongMember [])
unlike_parts d k p (unlike none) = (none, refl)

pub unlike_is : (d : Data) (f : JsonFault) → Tells (Unlike as_object d) f → Tells (Unlike as_object d) f × (((as_object d ≡ None) × (f ≡ fault_at WrongMember [])) ⊎ (f ≡ no_memory))
unlike_is d f (stands s) = (stands s, inl (unlike_parts d f.kind f.path s))
unlike_is d f (wants e) = (wants e, inr e)

missing_parts : (m : Member) (d : Data) (k : JsonFaultKind) (p : List Step) → Missing m d k p → (member_of m d ≡ None) × (fault_at k p ≡ fault_at MissingMember (step.Member m ∷ []))
missing_parts m d k p (missing o none) = (none, refl)

pub missing_is : (m : Member) (d : Data) (f : JsonFault) → Tells (Missing m d) f → Tells (Missing m d) f × (((member_of m d ≡ None) × (f ≡ fault_at MissingMember (step.Member m ∷ []))) ⊎ (f ≡ no_memory))
missing_is m d f (stands s) = (stands s, inl (missing_parts m d f.kind f.path s))
missing_is m d f (wants e) = (wants e, inr e)

stands_required : {A : Type 0} (m : Member) (what : Data → Option A) (d : Data) (k : JsonFaultKind) (p : List Step) → MemberFault m (Unlike what) d k p → MayReport (required m WrongMember what d) k p
stands_required m what d k p (absent k' p' (missing o none)) = rw none record { listed = (0, omega arith, refl) }
stands_required m what d k p (wrong e k' p' found (unlike none)) = rw (found, none) record { listed = (0, omega arith, refl) }

pub required_told : {A : Type 0} (m : Member) (what : Data → Option A) (d : Data) (f : JsonFault) → Tells (MemberFault m (Unlike what) d) f → Tells (MayReport (required m WrongMember what d)) f
required_told m what d f t = tells_as (MemberFault m (Unlike what) d) (MayReport (required m WrongMember what d)) f (λ k p h. stands_required m what d k p h) t

-- ---- items

-- as a loop reads them: the items from the n-th on, after what is read of those before
abbrev pub each_after : {A : Type 0} → JsonReading (List A) → ℕ → (Data → JsonReading A) → Items → JsonReading (List A)
each_after done n r no_items = done
each_after done n r (item d ds) = each_after (both (λ xs x. xs ++ x ∷ []) done (under (step.Item n) (r d))) (n + 1) r ds

both_nothing : {A : Type 0} (r : JsonReading (List A)) → r ≡ both (λ xs ys. xs ++ ys) r (Ok [])
both_nothing (Ok xs) = ap Ok (sym (append-nil xs))
both_nothing (Err faults) = ap Err (sym (append-nil faults))

both_first : {A : Type 0} (r : JsonReading (List A)) → both (λ xs ys. xs ++ ys) (Ok []) r ≡ r
both_first (Ok xs) = refl
both_first (Err faults) = refl

both_in_turn : {A : Type 0} (r : JsonReading (List A)) (s : JsonReading A) (t : JsonReading (List A))
    → both (λ xs ys. xs ++ ys) (both (λ xs x. xs ++ x ∷ []) r s) t ≡ both (λ xs ys. xs ++ ys) r (both (λ x xs. x ∷ xs) s t)
both_in_turn (Ok xs) (Ok x) (Ok ys) = ap Ok (append_assoc xs (x ∷ []) ys)
both_in_turn (Ok xs) (Ok x) (Err faults) = refl
both_in_turn (Ok xs) (Err faults) t = refl
both_in_turn (Err faults) s t = ap Err (append_assoc faults (faults_of s) (faults_of t) ∙ ap (λ l. faults ++ l) (faults_both (λ x xs. x ∷ xs) s t))

after_from : {A : Type 0} (done : JsonReading (List A)) (n : ℕ) (r : Data → JsonReading A) (ds : Items) → each_after done n r ds ≡ both (λ xs ys. xs ++ ys) done (each_from n r ds)
after_from done n r no_items = both_nothing done
after_from done n r (item d ds) = after_from (both (λ xs x. xs ++ x ∷ []) done (under (step.Item n) (r d))) (n + 1) r ds ∙ both_in_turn done (under (step.Item n) (r d)) (each_from (n + 1) r ds)

-- a loop that has read nothing yet
pub each_begun : {A : Type 0} (r : Data → JsonReading A) (ds : Items) → each_item r ds ≡ each_after (Ok []) 0 r ds
each_begun r ds = sym (after_from (Ok []) 0 r ds ∙ both_first (each_from 0 r ds))

next_item : {A : Type 0} (r : Data → JsonReading A) (done : JsonReading (List A)) (vs : List Value) (i : ℕ) (v : Value) → i < length vs → v ≡ get_or vs i v
    → each_after done i r (items_view (drop i vs)) ≡ each_after (both (λ xs x. xs ++ x ∷ []) done (under (step.Item i) (r (view v)))) (i + 1) r (items_view (drop (i + 1) vs))
next_item r done vs i v within is =
    at_drop_more (λ l. each_after done i r (items_view l)) vs i v within
    ∙ ap (λ w. each_after (both (λ xs x. xs ++ x ∷ []) done (under (step.Item i) (r (view w)))) (i + 1) r (items_view (drop (i + 1) vs))) (sym is)

-- one more is read, each seen through a function
pub each_read : {A B : Type 0} (r : Data → JsonReading B) (g : A → B) (whole : JsonReading (List B)) (vs : List Value) (i : ℕ) (xs ys : List A) (v : Value) (x : A)
    → whole ≡ each_after (Ok (map g xs)) i r (items_view (drop i vs)) → i < length vs → v ≡ get_or vs i v → r (view v) ≡ Ok (g x) → ys ≡ xs ++ x ∷ []
    → whole ≡ each_after (Ok (map g ys)) (i + 1) r (items_view (drop (i + 1) vs))
each_read r g whole vs i xs ys v x so_far within is read grown =
    so_far ∙ next_item r (Ok (map g xs)) vs i v within is
    ∙ ap (λ q. each_after (both (λ xs x. xs ++ x ∷ []) (Ok (map g xs)) (under (step.Item i) q)) (i + 1) r (items_view (drop (i + 1) vs))) read
    ∙ ap (λ l. each_after (Ok l) (i + 1) r (items_view (drop (i + 1) vs))) (sym (ap (map g) grown ∙ map-append g xs (x ∷ [])))

kept : {A : Type 0} (done : JsonReading (List A)) (n : ℕ) (r : Data → JsonReading A) (ds : Items) (f : JsonFault) → Tells (MayReport done) f → Tells (MayReport (each_after done n r ds)) f
kept done n r no_items f t = t
kept done n r (item d ds) f t = kept (both (λ xs x. xs ++ x ∷ []) done (under (step.Item n) (r d))) (n + 1) r ds f (both_left _ done (under (step.Item n) (r d)) f t)

-- the fault of an item stands
pub each_told : {A : Type 0} (r : Data → JsonReading A) (whole done : JsonReading (List A)) (vs : List Value) (i : ℕ) (v : Value) (f g : JsonFault) → whole ≡ each_after done i r (items_view (drop i vs))
    → Tells (MayReport (r (view v))) f → i < length vs → v ≡ get_or vs i v → IsUnder (step.Item i) f g → Tells (MayReport whole) g
each_told r whole done vs i v f g so_far t within is up =
    subst (λ q. Tells (MayReport q) g) (sym (so_far ∙ next_item r done vs i v within is))
    (kept (both (λ xs x. xs ++ x ∷ []) done (under (step.Item i) (r (view v)))) (i + 1) r (items_view (drop (i + 1) vs)) g (both_right _ done (under (step.Item i) (r (view v))) g (under_told (step.Item i) (r (view v)) f g t up)))

pub ruleset reading = (chain_first, chain_next, both_left, both_right, under_told, first_told, unlike_is, missing_is, required_told, tells_wants)

pub ruleset loops = (each_begun, first_told, items_len-items_view, tells_wants)
