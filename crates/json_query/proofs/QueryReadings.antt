-- The parts of a query, and its text.
use Rattle.std.proofs.Common.{◌≡◌, ◌∙◌, ℕ, zero, suc, ◌+◌, ◌<◌, ◌≤◌, max, List, [], ◌∷◌, map, length, get_or, String, Vec, Global, string_bytes, Ordering, Less, Equal, Greater, Bool, true, false, if◌then◌else◌, Option, None, Some, option_and_then, Ok, IsUtf8, refl, sym, ap, arith}
use Rattle.std.proofs.lemmas.Str.{IsUtf8-from_is_utf8, is_utf8-from_IsUtf8}
use Rattle.std.specs.Ordering.{match_ordering}
use Rattle.std.specs.Str.{is_utf8}
use Rattle.query.specs.declared.expr.Expr.{Expr}
use Rattle.query.specs.declared.expr.Expr.TheViews as views
use Rattle.query.specs.declared.expr.Op.{Op}
use Rattle.query.specs.Prelude.{Tree, op, renamed, tree_of, trees}
use Rattle.query.proofs.TreeLemmas.{tree_of-Op}
use Rattle.query.proofs.ResolveLemmas.{all_renamed-trees}
use Rattle.json_base.specs.Data as data'
use Rattle.json_base.specs.Prelude.{Data, IsObject, IsUnder, Items, Members, NoDocument, Tells, Value, as_array, depth, get_member, items_depth, items_view, member, member_of, members_depth, no_document, no_members, read, view}
use Rattle.json_base.specs.declared.path.Member.{Member}
use Rattle.json_base.specs.declared.path.Member.TheVariants as member
use Rattle.json_base.specs.declared.path.Step.{Step}
use Rattle.json_base.specs.declared.path.Step.TheVariants as step
use Rattle.json_base.specs.declared.fault.JsonFault.{JsonFault}
use Rattle.json_base.specs.declared.fault.JsonFaultKind.{JsonFaultKind}
use Rattle.json_base.specs.declared.fault.JsonFaultKind.TheVariants.{NotJson}
use Rattle.json_base.proofs.JsonTells.{tells_as, tells_wants}
use Rattle.json_query.specs.Prelude.{JsonReading, MayReport, QueryBytesFault, chain, expr_within, form_of, formed, mapped, named_tree, operands, operator_of, query_of, query_text, under, wanted}
use Rattle.json_query.specs.declared.form.Form.TheVariants as form
use Rattle.json_query.proofs.Readings.{chain_first, under_told}

-- ---- how deep arguments are

array_depth : (d : Data) (ds : Items) → as_array d ≡ Some ds → items_depth ds < depth d
array_depth data'.null ds h = absurd cc
array_depth (data'.boolean b) ds h = absurd cc
array_depth (data'.number n) ds h = absurd cc
array_depth (data'.string s) ds h = absurd cc
array_depth (data'.array es) ds h = let same : es ≡ ds = cc in omega (arith, ap items_depth same)
array_depth (data'.object ms) ds h = absurd cc

found_depth : (o : Ordering) (p : Option Data) (d : Data) (ds : Items) (n : ℕ) → (option_and_then as_array p ≡ Some ds → items_depth ds < n) → option_and_then as_array (match_ordering o p (Some d) p) ≡ Some ds → items_depth ds < max (depth d) n
found_depth Less p d ds n h is = omega (arith, h is)
found_depth Equal p d ds n h is = omega (arith, array_depth d ds is)
found_depth Greater p d ds n h is = omega (arith, h is)

members_deeper : (k : List ℕ) (ms : Members) (ds : Items) → option_and_then as_array (get_member k ms) ≡ Some ds → items_depth ds < members_depth ms
members_deeper k no_members ds h = absurd cc
members_deeper k (member l d ms) ds h = found_depth _ (get_member k ms) d ds (members_depth ms) (members_deeper k ms ds) h

pub arguments_depth : (m : Member) (d : Data) (ds : Items) → option_and_then as_array (member_of m d) ≡ Some ds → items_depth ds + 1 < depth d
arguments_depth m data'.null ds h = absurd cc
arguments_depth m (data'.boolean b) ds h = absurd cc
arguments_depth m (data'.number n) ds h = absurd cc
arguments_depth m (data'.string s) ds h = absurd cc
arguments_depth m (data'.array es) ds h = absurd cc
arguments_depth m (data'.object ms) ds h = omega (arith, members_deeper _ ms ds h)

pub item_depth : (vs : List Value) (i : ℕ) (v : Value) → i < length vs → v ≡ get_or vs i v → depth (view v) ≤ items_depth (items_view vs)
item_depth [] i v within is = absurd (omega arith)
item_depth (w ∷ vs) zero v within is = omega (arith, ap (λ u. depth (view u)) is)
item_depth (w ∷ vs) (suc i) v within is = omega (arith, item_depth vs i v (omega arith) is)

-- what holds of the readings of arguments, as deep as they are, holds one level below their operator
at_depth : (P : (Data → JsonReading (Tree (List ℕ))) → Type 0) (d : Data) (ds : Items) (n : ℕ) → option_and_then as_array (member_of member.Args d) ≡ Some ds → depth d ≤ n
    → ((k : ℕ) → items_depth ds ≤ k → P (expr_within (suc k))) → P (expr_within n)
at_depth P d ds zero listed h all = absurd (omega (arith, arguments_depth member.Args d ds listed))
at_depth P d ds (suc k) listed h all = all k (omega (arith, arguments_depth member.Args d ds listed))

-- ---- operators

map_named : (es : List (Expr (String Global))) → map (renamed string_bytes) (map tree_of es) ≡ map named_tree es
map_named [] = refl
map_named (e ∷ es) = ap (λ ts. named_tree e ∷ ts) (map_named es)

named_operator : (o : Op) (v : Vec (Expr (String Global)) Global) → named_tree (views.Op o v) ≡ op o (trees (map named_tree v.items))
named_operator o v = ap (renamed string_bytes) (tree_of-Op o v) ∙ ap (op o) (all_renamed-trees string_bytes (map tree_of v.items) ∙ ap trees (map_named v.items))

pub formed_told : (n : ℕ) (d : Data) (form : _) (f : JsonFault) → IsObject d → form_of d ≡ Some form → Tells (MayReport (formed (expr_within n) d (Some form))) f → Tells (MayReport (expr_within (suc n) d)) f
formed_told n d form f object is t = rw (object, is) t

module _ (n : ℕ) (d : Data) (object : IsObject d) (is : form_of d ≡ Some form.Op) (o : Op) (ds : Items) (named : operator_of d ≡ Ok o) (listed : option_and_then as_array (member_of member.Args d) ≡ Some ds) (deep : depth d ≤ n) where
  pub operation_ok : (v : Vec (Expr (String Global)) Global) → ((k : ℕ) → items_depth ds ≤ k → operands (expr_within (suc k)) (Ok o) ds ≡ Ok (map named_tree v.items)) → expr_within (suc n) d ≡ Ok (named_tree (views.Op o v))
  operation_ok v read =
      rw (object, is, named, listed)
      (ap (λ q. mapped (λ ts. op o (trees ts)) (under (step.Member member.Args) q)) (at_depth (λ r. operands r (Ok o) ds ≡ Ok (map named_tree v.items)) d ds n listed deep read) ∙ ap Ok (sym (named_operator o v)))

  pub operands_told : (f g : JsonFault) → ((k : ℕ) → items_depth ds ≤ k → Tells (MayReport (operands (expr_within (suc k)) (Ok o) ds)) f) → IsUnder (step.Member member.Args) f g → Tells (MayReport (expr_within (suc n) d)) g
  operands_told f g told up = rw (object, is, named, listed) (chain_first _ _ g (under_told _ _ f g (at_depth (λ r. Tells (MayReport (operands r (Ok o) ds)) f) d ds n listed deep told) up))

-- ---- texts

pub text_is : (bytes : List ℕ) → IsUtf8 bytes → query_text bytes ≡ chain (wanted NotJson [] (read bytes)) query_of
unfolding query_text
text_is bytes text = rw (is_utf8-from_IsUtf8 bytes text) refl

no_text : (b : Bool) (o : Option Data) → (b ≡ true → o ≡ None) → (if b then o else None) ≡ None
no_text true o h = h refl
no_text false o h = refl

stands_unread : (bytes : List ℕ) (k : JsonFaultKind) (p : List Step) → NoDocument bytes k p → QueryBytesFault bytes k p
unfolding query_text
stands_unread bytes k p (no_document none) = rw (no_text (is_utf8 bytes) (read bytes) (λ h. none (IsUtf8-from_is_utf8 bytes h))) record { listed = (0, omega arith, refl) }

pub text_unread : (bytes : List ℕ) (f : JsonFault) → Tells (NoDocument bytes) f → Tells (QueryBytesFault bytes) f
text_unread bytes f t = tells_as (NoDocument bytes) (QueryBytesFault bytes) f (λ k p h. stands_unread bytes k p h) t

pub ruleset texts = (text_is, text_unread, tells_wants)
