-- The child of a lawful list array.
use Rattle.std.proofs.Common.{◌≡◌, ◌∙◌, ◌||◌, List, [], ◌∷◌, map, Bool, true, false, not, cond, nat_eq, is_none, slice_index_or, Option, Some, None, option_map, ap, sym, refl, subst}
use Rattle.std.proofs.lemmas.Bool.{and_parts}
use Rattle.std.specs.declared.boxed.Box.{Box}
use Rattle.std.specs.declared.alloc.Global.{Global}
use Rattle.types.specs.declared.int_type.Width.{Width}
use Rattle.types.specs.declared.int_type.Width.TheVariants.{W8, W16, W32, W64}
use Rattle.types.specs.declared.int_type.IntType.{IntType}
use Rattle.types.specs.declared.offset_width.OffsetWidth.{OffsetWidth}
use Rattle.types.specs.declared.offset_width.OffsetWidth.TheVariants.{Narrow, Wide}
use Rattle.layout.specs.declared.raw.RawArray.{RawArray, out-RawArray}
use Rattle.types.specs.Kind as kind
use Rattle.types.specs.Kind.{Kind, kind_of, bytes_of, same_int, same_kind, same_offsets}
use Rattle.layout.specs.Prelude.{Inner, Reading, child_fault, do_parts_differ, fault, inner_children, inner_dictionary, inner_of, is_no_child, read_parts, reading}
use Rattle.layout.proofs.FirstFaultLemmas.{fault-none, reading-raw}
use Rattle.layout.proofs.LawfulLemmas.{MakesArray-raw, MakesArray, either_false}

-- ---- the same kind

same_width : (a b : Width) → nat_eq (bytes_of a) (bytes_of b) ≡ true → a ≡ b
same_width W8 W8 h = refl
same_width W8 W16 h = cc
same_width W8 W32 h = cc
same_width W8 W64 h = cc
same_width W16 W8 h = cc
same_width W16 W16 h = refl
same_width W16 W32 h = cc
same_width W16 W64 h = cc
same_width W32 W8 h = cc
same_width W32 W16 h = cc
same_width W32 W32 h = refl
same_width W32 W64 h = cc
same_width W64 W8 h = cc
same_width W64 W16 h = cc
same_width W64 W32 h = cc
same_width W64 W64 h = refl

same_sign : (a b : Bool) → cond a b (not b) ≡ true → a ≡ b
same_sign true true h = refl
same_sign true false h = cc
same_sign false true h = cc
same_sign false false h = refl

same_ints : (s t : IntType) → same_int s t ≡ true → s ≡ t
same_ints s t h =
    let parts = and_parts (nat_eq (bytes_of s.bits) (bytes_of t.bits)) (cond s.signed t.signed (not t.signed)) h in
    ap (λ w. record { bits = w; signed = s.signed }) (same_width s.bits t.bits parts.0)
    ∙ ap (λ b. record { bits = t.bits; signed = b }) (same_sign s.signed t.signed parts.1)

same_widths : (v w : OffsetWidth) → same_offsets v w ≡ true → v ≡ w
same_widths Narrow Narrow h = refl
same_widths Narrow Wide h = cc
same_widths Wide Narrow h = cc
same_widths Wide Wide h = refl

-- types that are the same have one kind
pub same_kinds : (k l : Kind) → same_kind k l ≡ true → k ≡ l
same_kinds (kind.int s) (kind.int t) h = ap kind.int (same_ints s t h)
same_kinds (kind.int s) kind.boolean h = cc
same_kinds (kind.int s) (kind.texts w) h = cc
same_kinds (kind.int s) (kind.lists w l) h = cc
same_kinds (kind.int s) kind.dict h = cc
same_kinds kind.boolean (kind.int t) h = cc
same_kinds kind.boolean kind.boolean h = refl
same_kinds kind.boolean (kind.texts w) h = cc
same_kinds kind.boolean (kind.lists w l) h = cc
same_kinds kind.boolean kind.dict h = cc
same_kinds (kind.texts v) (kind.int t) h = cc
same_kinds (kind.texts v) kind.boolean h = cc
same_kinds (kind.texts v) (kind.texts w) h = ap kind.texts (same_widths v w h)
same_kinds (kind.texts v) (kind.lists w l) h = cc
same_kinds (kind.texts v) kind.dict h = cc
same_kinds (kind.lists v k) (kind.int t) h = cc
same_kinds (kind.lists v k) kind.boolean h = cc
same_kinds (kind.lists v k) (kind.texts w) h = cc
same_kinds (kind.lists v k) (kind.lists w l) h =
    let parts = and_parts (same_offsets v w) (same_kind k l) h in
    ap (λ u. kind.lists u k) (same_widths v w parts.0) ∙ ap (kind.lists w) (same_kinds k l parts.1)
same_kinds (kind.lists v k) kind.dict h = cc
same_kinds kind.dict (kind.int t) h = cc
same_kinds kind.dict kind.boolean h = cc
same_kinds kind.dict (kind.texts w) h = cc
same_kinds kind.dict (kind.lists w l) h = cc
same_kinds kind.dict kind.dict h = refl

-- ---- an array that is no dictionary-encoded one

none_of : (b : Bool) → not b ≡ false → b ≡ true
none_of true h = refl
none_of false h = cc

no_words : (k : Kind) (children : List Inner) (dictionary : Option Inner) → same_kind k kind.dict ≡ false → do_parts_differ k children dictionary ≡ false → is_none dictionary ≡ true
no_words (kind.int t) children dictionary plain h = none_of (is_none dictionary) (either_false _ _ h).1
no_words kind.boolean children dictionary plain h = none_of (is_none dictionary) (either_false _ _ h).1
no_words (kind.texts w) children dictionary plain h = none_of (is_none dictionary) (either_false _ _ h).1
no_words (kind.lists w k) children dictionary plain h = none_of (is_none dictionary) (either_false _ _ h).1
no_words kind.dict children dictionary plain h = cc

none_raw : (d : Option (Box RawArray Global)) → is_none (inner_dictionary d) ≡ true → d ≡ None
none_raw None h = refl
none_raw (Some b) h = cc

-- its parts make an array that is lawful and shows the same
pub MakesArray-plain : (raw : RawArray) → fault raw ≡ None → same_kind (kind_of (out-RawArray raw).ty) kind.dict ≡ false → MakesArray raw None
MakesArray-plain raw lawful plain =
    let r = out-RawArray raw in
    let none = none_raw r.dictionary (no_words (kind_of r.ty) (inner_children r.children.items) (inner_dictionary r.dictionary) plain (fault-none raw lawful).whole.parts_agree) in
    MakesArray-raw raw None lawful (sym (ap (option_map (λ b. (reading b.value).seen)) none))

-- ---- the one child

-- The one child of a list array whose items are of kind k: lawful, of that kind, and of no other than its own words.
pub record OneChild (k : Kind) (children : List RawArray) (raw : RawArray) : Type 0 where
  pub is : children ≡ raw ∷ []
  pub lawful : fault raw ≡ None
  pub kind_is : (reading raw).kind ≡ k
  pub no_dict : same_kind (reading raw).kind kind.dict ≡ false
  pub plain : same_kind (kind_of (out-RawArray raw).ty) kind.dict ≡ false

kind-raw : (raw : RawArray) → (reading raw).kind ≡ kind_of (out-RawArray raw).ty
unfolding read_parts
kind-raw raw = ap (λ (q : Reading). q.kind) (reading-raw raw)

child_same : (k l : Kind) → (not (same_kind k l) || same_kind k kind.dict) ≡ false → (k ≡ l) × (same_kind l kind.dict ≡ false)
child_same k l h =
    let parts = either_false (not (same_kind k l)) (same_kind k kind.dict) h in
    let same = same_kinds k l (none_of (same_kind k l) parts.0) in
    (same, subst (λ q. same_kind q kind.dict ≡ false) same parts.1)

pub only_child : (k : Kind) (children : List RawArray) (d : RawArray) → is_no_child k (map inner_of (map reading children)) ≡ false → child_fault (map reading children) ≡ None → OneChild k children (slice_index_or children 0 d)
only_child k [] d h lawful = cc
only_child k (c ∷ []) d h lawful =
    let same = child_same k (reading c).kind h in
    record {
      is = refl;
      lawful = lawful;
      kind_is = sym same.0;
      no_dict = same.1;
      plain = subst (λ q. same_kind q kind.dict ≡ false) (kind-raw c) same.1;
    }
only_child k (c ∷ e ∷ cs) d h lawful = cc
