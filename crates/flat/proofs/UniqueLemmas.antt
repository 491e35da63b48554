-- The nodes of one batch are those of no other.
use Rattle.std.proofs.Common.{◌≡◌, ◌∙◌, ℕ, zero, suc, List, [], ◌∷◌, Option, Some, None, ap, drop, inl, inr, refl, subst, sym}
use Rattle.std.specs.Prelude.{unwrap_or}
use Rattle.std.specs.Option.{option_and_then}
use Rattle.arrays.specs.Prelude.{Batch, FieldShape, IntType, Narrow, OffsetWidth, Seen, Shape, kind_of_field}
use Rattle.arrays.specs.Shape as shape
use Rattle.flat.specs.Prelude.{Begins, IsBatchOf, IsColumn, Takes, content_of, field_named, most_levels, read_column, shape_alone}
use Rattle.flat.specs.declared.content.Content.{Content}
use Rattle.flat.specs.declared.content.Content.TheVariants as content
use Rattle.flat.specs.declared.node.Node.{Node}

some_is : {A : Type 0} (x y : A) → Some x ≡ Some y → x ≡ y
some_is x y same = ap (λ o. unwrap_or o x) same

width_of : Content → OffsetWidth
width_of (content.Lists w) = w
width_of c = Narrow

no_shape : (c : Content) (o : Option Content) (s : Shape) → o ≡ Some c → shape_alone c ≡ None → option_and_then shape_alone o ≡ Some s → ⊥
no_shape c o s is none some =
    let same : None ≡ Some s = sym none ∙ sym (ap (option_and_then shape_alone) is) ∙ some in
    cc

codes_no_lists : (o : Option Content) (t : IntType) (w : OffsetWidth) → o ≡ Some (content.Codes t) → o ≡ Some (content.Lists w) → ⊥
codes_no_lists o t w is other =
    let same : Some (content.Codes t) ≡ Some (content.Lists w) = sym is ∙ other in
    cc

one_width : (o : Option Content) (v w : OffsetWidth) → o ≡ Some (content.Lists v) → o ≡ Some (content.Lists w) → v ≡ w
unfolding width_of
one_width o v w is other = ap width_of (some_is (content.Lists v) (content.Lists w) (sym is ∙ other))

-- nodes begin with one column
pub begins_one : (levels : ℕ) (nodes : List Node) (f g : FieldShape) (r s : List Node) → Begins levels nodes f r → Begins levels nodes g s → (f ≡ g) × (r ≡ s)
begins_one zero nodes f g r s a b = absurd a
begins_one (suc levels) [] f g r s a b = absurd a
begins_one (suc levels) (n ∷ behind) f g r s (inl a) (inl b) =
    let same = some_is a.ty b.ty (sym a.holds ∙ b.holds) in
    (a.field ∙ ap (field_named n) same ∙ sym b.field, a.next ∙ sym b.next)
begins_one (suc levels) (n ∷ behind) f g r s (inl a) (inr (inl b)) = absurd (no_shape (content.Codes b.indices) (content_of n) a.ty b.holds refl a.holds)
begins_one (suc levels) (n ∷ behind) f g r s (inl a) (inr (inr b)) = absurd (no_shape (content.Lists b.2.width) (content_of n) a.ty b.2.holds refl a.holds)
begins_one (suc levels) (n ∷ behind) f g r s (inr (inl a)) (inl b) = absurd (no_shape (content.Codes a.indices) (content_of n) b.ty a.holds refl b.holds)
begins_one (suc levels) (n ∷ behind) f g r s (inr (inl a)) (inr (inl b)) = (a.field ∙ sym b.field, ap (drop 1) (sym a.next ∙ b.next))
begins_one (suc levels) (n ∷ behind) f g r s (inr (inl a)) (inr (inr b)) = absurd (codes_no_lists (content_of n) a.indices b.2.width a.holds b.2.holds)
begins_one (suc levels) (n ∷ behind) f g r s (inr (inr a)) (inl b) = absurd (no_shape (content.Lists a.2.width) (content_of n) b.ty a.2.holds refl b.holds)
begins_one (suc levels) (n ∷ behind) f g r s (inr (inr a)) (inr (inl b)) = absurd (codes_no_lists (content_of n) b.indices a.2.width b.holds a.2.holds)
begins_one (suc levels) (n ∷ behind) f g r s (inr (inr a)) (inr (inr b)) =
    let items = begins_one levels behind a.0 b.0 r s a.1 b.1 in
    let width = one_width (content_of n) a.2.width b.2.width a.2.holds b.2.holds in
    (a.2.field ∙ ap (λ w. field_named n (shape.lists w a.0)) width ∙ ap (λ i. field_named n (shape.lists b.2.width i)) items.0 ∙ sym b.2.field, items.1)

-- no nodes begin with none
pub none_begins : (levels : ℕ) (nodes : List Node) (f : FieldShape) (rest : List Node) → [] ≡ nodes → Begins levels nodes f rest → ⊥
none_begins zero nodes f rest is h = h
none_begins (suc levels) nodes f rest is h = subst (λ (l : List Node). Begins (suc levels) l f rest) (sym is) h

column_one : (nodes : List Node) (f g : FieldShape) (s t : Seen) → f ≡ g → IsColumn nodes f s → IsColumn nodes g t → s ≡ t
column_one [] f g s t same a b = absurd a
column_one (n ∷ behind) f g s t same a b = a.1 ∙ ap (λ h. (read_column (kind_of_field h) n behind).seen) same ∙ sym b.1

takes_one : (nodes : List Node) (fs gs : List FieldShape) (ss ts : List Seen) → Takes nodes fs ss [] → Takes nodes gs ts [] → (fs ≡ gs) × (ss ≡ ts)
takes_one nodes [] [] [] [] a b = (refl, refl)
takes_one nodes [] [] [] (t ∷ ts) a b = absurd b
takes_one nodes [] (g ∷ gs) [] [] a b = absurd b
takes_one nodes [] (g ∷ gs) [] (t ∷ ts) a b = absurd (none_begins most_levels nodes g b.0 a b.1)
takes_one nodes [] gs (s ∷ ss) ts a b = absurd a
takes_one nodes (f ∷ fs) gs [] ts a b = absurd a
takes_one nodes (f ∷ fs) [] (s ∷ ss) [] a b = absurd (none_begins most_levels nodes f a.0 b a.1)
takes_one nodes (f ∷ fs) [] (s ∷ ss) (t ∷ ts) a b = absurd b
takes_one nodes (f ∷ fs) (g ∷ gs) (s ∷ ss) [] a b = absurd b
takes_one nodes (f ∷ fs) (g ∷ gs) (s ∷ ss) (t ∷ ts) a b =
    let here = begins_one most_levels nodes f g a.0 b.0 a.1 b.1 in
    let more = takes_one a.0 fs gs ss ts a.3 (subst (λ (l : List Node). Takes l gs ts []) (sym here.1) b.3) in
    let seen = column_one nodes f g s t here.0 a.2 b.2 in
    (ap (λ h. h ∷ fs) here.0 ∙ ap (λ hs. g ∷ hs) more.0, ap (λ x. x ∷ ss) seen ∙ ap (λ xs. t ∷ xs) more.1)

pub batch_one : (rows : ℕ) (nodes : List Node) (b c : Batch) → IsBatchOf rows nodes b → IsBatchOf rows nodes c → b ≡ c
batch_one rows nodes b c is other =
    let columns = takes_one nodes b.fields c.fields b.columns c.columns is.columns other.columns in
    let long = is.long ∙ sym other.long in
    λ i. record { fields = columns.0 i; rows = long i; columns = columns.1 i }
