-- Nodes over parts that are lent.
use Rattle.std.proofs.Common.{◌≡◌, ◌≢◌, ◌^◌, ◌-◌, ◌∙◌, ◌<◌, ◌≤◌, ◌+◌, ◌++◌, ℕ, zero, suc, List, [], ◌∷◌, Option, Some, None, Bool, true, false, not, ap, append-nil, append_assoc, arith, get_or, inl, inr, length, map, option_map, nat_lt, refl, slice_get, slice_index_or, string_bytes, subst, sym, take}
use Rattle.std.proofs.lemmas.Bool.Decides.{nat_tests}
use Rattle.std.proofs.lemmas.List.{length-map, take_all, take_more}
use Rattle.std.proofs.lemmas.Option.{get_or_from_slice_get, slice_get-get_or, slice_get-map, slice_get_within}
use Rattle.std.specs.Arc.{arc_value}
use Rattle.std.specs.Option.{option_and_then}
use Rattle.std.specs.Prelude.{is_none, ◌==◌, ◌⊎◌}
use Rattle.std.specs.declared.alloc.Global.{Global}
use Rattle.std.specs.declared.boxed.Box.{Box}
use Rattle.arrays.proofs.BatchLemmas.{kinds, whole}
use Rattle.arrays.specs.Prelude.{Batch, Buffers, DataType, Dict, Field, FieldShape, Int, IntType, Kind, LargeUtf8, Narrow, OffsetWidth, RawArray, Reading, Seen, Shape, Utf8, Wide, batch_fault, checked, checked_texts, child_fault, depth, dictionary_fault, do_parts_differ, field, field_of, field_step, fields_of, fold-Field, fold_out-DataType, fold_out-Field, inner_of, int32, is_no_child, is_nullable, kind_of, kind_of_field, kind_step, map-DataType, name_of, out-Field, out-RawArray, outs-Dict, outs-LargeList', outs-List', own_fault, read_checked, read_lent, read_parts, reading, shape_of, shape_step}
use Rattle.arrays.specs.declared.lent.LentParts.{LentParts}
use Rattle.arrays.proofs.ChildLemmas.{MakesArray-plain, OneChild, only_child}
use Rattle.arrays.proofs.FirstFaultLemmas.{own_fault-none, reading-raw}
use Rattle.arrays.proofs.LawfulLemmas.{checked-reading, either_false, first-parts, no_dictionary, none_present, parts_agree, reading-again, text_alone}
use Rattle.arrays.specs.Kind as kind
use Rattle.arrays.specs.Shape as shape
use Rattle.arrays.specs.DataTypes as variant
use Rattle.arrays.specs.DataTypeViews as types
use Rattle.arrays.proofs.ShapeLemmas.{kind_of-Bool, kind_of-Int, kind_of-LargeUtf8, kind_of-Utf8, kind_of_field-field_of}
use Rattle.flat.specs.Prelude.{ArePushed, Begins, IsDictionary, IsLentDict, IsNodeOver, IsOver, IsTextPushed, Lends, LendsColumn, LendsColumns, content_of, content_of_kind, field_named, is_dictionary, most_levels, shape_alone, stated}
use Rattle.flat.specs.declared.node.Node.{Node}

-- where it isn't known how many nulls there are
abbrev pub unknown : ℕ
unknown = 2 ^ 64 - 1

-- a node over buffers is one over what they are read as
pub over_read : (name : List ℕ) (nullable : Bool) (j k : Kind) (length : ℕ) (buffers : Buffers) (n : Node) (children : List Reading) (dictionary : Option Reading)
    → IsNodeOver name nullable j length unknown buffers n → IsOver k n children dictionary (read_parts k length None buffers children dictionary)
over_read name nullable j k length buffers n children dictionary is = record {
  buffers = buffers;
  is = ap (λ m. read_parts k m None buffers children dictionary) (sym is.long) ∙ ap (λ s. read_parts k n.length s buffers children dictionary) (sym (ap stated is.count));
  validity = is.validity;
  first = is.first;
  second = is.second;
}

not_zero : (n : ℕ) → not (n == 0) ≡ true → n ≢ 0
not_zero n some none = cc (sym (ap (λ (k : ℕ). not (k == 0)) none) ∙ some)

-- the node of a dictionary's texts
pub dictionary_over : (length nulls : ℕ) (buffers : Buffers) (n : Node) → IsNodeOver [] true kind.utf8 length nulls buffers n → IsDictionary n
dictionary_over length nulls buffers n is = record { holds = is.holds; unnamed = is.named; nullable = not_zero n.nullable is.nulls }

-- its texts
pub text_pushed : (n : Node) (texts : Seen) (p : LentParts) (old new : List Node) → IsNodeOver [] true kind.utf8 p.length unknown p.buffers.now n
    → (read_lent kind.utf8 p).fault ≡ None → (read_lent kind.utf8 p).seen ≡ texts → new ≡ old ++ n ∷ [] → IsTextPushed texts old new
text_pushed n texts p old new is lawful shows pushed =
    let children = map reading p.children.now in
    let dictionary = option_map checked_texts (option_map (λ w. arc_value w.now) p.words) in
    let alone = text_alone Narrow p.length None p.buffers.now children dictionary lawful in
    record {
      own = n;
      is = pushed;
      dictionary = dictionary_over p.length unknown p.buffers.now n is;
      parts = read_lent kind.utf8 p;
      lawful = lawful;
      shows = shows;
      over = subst (λ (cs : List Reading). IsOver kind.utf8 n cs None (read_lent kind.utf8 p)) alone.0
          (subst (λ (d : Option Reading). IsOver kind.utf8 n children d (read_lent kind.utf8 p)) alone.1
          (over_read [] true kind.utf8 kind.utf8 p.length p.buffers.now n children dictionary is));
    }

-- ---- fields

-- The node of a field, over these buffers.
abbrev pub IsHeadOf : FieldShape → ℕ → ℕ → Buffers → Node → Type 0
IsHeadOf f length nulls buffers n = IsNodeOver (name_of f) (is_nullable f) (kind_of_field f) length nulls buffers n

-- The same over those of parts.
abbrev pub IsNodeOf : FieldShape → LentParts → Node → Type 0
IsNodeOf f p n = IsHeadOf f p.length unknown p.buffers.now n

named_so : (name : List ℕ) (nullable : Bool) (ty : Shape) (n : Node) → n.name.now ≡ name → not (n.nullable == 0) ≡ nullable → field name nullable ty ≡ field_named n ty
named_so name nullable ty n named nulls = ap (λ m. field m nullable ty) (sym named) ∙ ap (λ b. field n.name.now b ty) (sym nulls)

not_below : (k : Kind) → depth k < 0 → ⊥
not_below k below = omega (arith, below)

-- a kind that needs no other node
abbrev pub is_alone : Kind → Bool
is_alone (kind.lists w k) = false
is_alone kind.dict = false
is_alone k = true

alone_parts : (k : Kind) (children : List Reading) (dictionary : Option Reading) → is_alone k ≡ true → do_parts_differ k (map inner_of children) (option_map inner_of dictionary) ≡ false
    → (children ≡ []) × (dictionary ≡ None)
alone_parts (kind.int t) children dictionary alone h = let parts = either_false _ _ h in (none_present children parts.0, no_dictionary dictionary parts.1)
alone_parts kind.boolean children dictionary alone h = let parts = either_false _ _ h in (none_present children parts.0, no_dictionary dictionary parts.1)
alone_parts (kind.texts w) children dictionary alone h = let parts = either_false _ _ h in (none_present children parts.0, no_dictionary dictionary parts.1)
alone_parts (kind.lists w k) children dictionary alone h = cc
alone_parts kind.dict children dictionary alone h = cc

over_alone : (f : FieldShape) (p : LentParts) (n : Node) → IsNodeOf f p n → is_alone (kind_of_field f) ≡ true → (read_lent (kind_of_field f) p).fault ≡ None
    → IsOver (kind_of_field f) n [] None (read_lent (kind_of_field f) p)
over_alone f p n is alone lawful =
    let k = kind_of_field f in
    let children = map reading p.children.now in
    let dictionary = option_map checked_texts (option_map (λ w. arc_value w.now) p.words) in
    let none = alone_parts k children dictionary alone (parts_agree k p.length None p.buffers.now children dictionary lawful) in
    subst (λ (cs : List Reading). IsOver k n cs None (read_lent k p)) none.0
    (subst (λ (d : Option Reading). IsOver k n children d (read_lent k p)) none.1
    (over_read (name_of f) (is_nullable f) k k p.length p.buffers.now n children dictionary is))

lends_alone : (k : Kind) (n : Node) (rest : List Node) (r : Reading) → is_alone k ≡ true → IsOver k n [] None r → Lends k (n ∷ rest) r
lends_alone (kind.int t) n rest r alone over = over
lends_alone kind.boolean n rest r alone over = over
lends_alone (kind.texts w) n rest r alone over = over
lends_alone (kind.lists w k) n rest r alone over = cc
lends_alone kind.dict n rest r alone over = cc

pub alone_begins : (f : FieldShape) (length nulls : ℕ) (buffers : Buffers) (n : Node) → IsHeadOf f length nulls buffers n → is_alone (kind_of_field f) ≡ true → (levels : ℕ) → depth (kind_of_field f) < levels
    → (rest : List Node) → Begins levels (n ∷ rest) f rest
alone_begins f length nulls buffers n is alone zero below rest = absurd (not_below (kind_of_field f) below)
alone_begins (field name nullable (shape.int t)) length nulls buffers n is alone (suc l) below rest =
    inl (record { ty = shape.int t; holds = ap (option_and_then shape_alone) is.holds; field = named_so name nullable (shape.int t) n is.named is.nulls; next = refl })
alone_begins (field name nullable shape.boolean) length nulls buffers n is alone (suc l) below rest =
    inl (record { ty = shape.boolean; holds = ap (option_and_then shape_alone) is.holds; field = named_so name nullable shape.boolean n is.named is.nulls; next = refl })
alone_begins (field name nullable (shape.texts w)) length nulls buffers n is alone (suc l) below rest =
    inl (record { ty = shape.texts w; holds = ap (option_and_then shape_alone) is.holds; field = named_so name nullable (shape.texts w) n is.named is.nulls; next = refl })
alone_begins (field name nullable (shape.lists w item)) length nulls buffers n is alone (suc l) below rest = cc
alone_begins (field name nullable shape.dict) length nulls buffers n is alone (suc l) below rest = cc

pub codes_begin : (name : List ℕ) (nullable : Bool) (length nulls : ℕ) (buffers : Buffers) (n d : Node) → IsHeadOf (field name nullable shape.dict) length nulls buffers n → content_of d ≡ Some (content_of_kind kind.utf8)
    → (levels : ℕ) → 0 < levels → (rest : List Node) → Begins levels (n ∷ d ∷ rest) (field name nullable shape.dict) rest
codes_begin name nullable length nulls buffers n d is texts zero below rest = absurd (not_below kind.dict below)
codes_begin name nullable length nulls buffers n d is texts (suc l) below rest =
    inr (inl (record { indices = int32; holds = is.holds; dictionary = d; texts = ap is_dictionary texts; field = named_so name nullable shape.dict n is.named is.nulls; next = refl }))

pub lists_begin : (name : List ℕ) (nullable : Bool) (w : OffsetWidth) (item : FieldShape) (length nulls : ℕ) (buffers : Buffers) (n : Node) (own : List Node)
    → IsHeadOf (field name nullable (shape.lists w item)) length nulls buffers n → ((levels : ℕ) → depth (kind_of_field item) < levels → (rest : List Node) → Begins levels (own ++ rest) item rest)
    → (levels : ℕ) → suc (depth (kind_of_field item)) < levels → (rest : List Node) → Begins levels (n ∷ own ++ rest) (field name nullable (shape.lists w item)) rest
lists_begin name nullable w item length nulls buffers n own is begins zero below rest = absurd (not_below (kind.lists w (kind_of_field item)) below)
lists_begin name nullable w item length nulls buffers n own is begins (suc l) below rest =
    inr (inr (item, begins l (omega (arith, below)) rest, record { width = w; holds = is.holds; field = named_so name nullable (shape.lists w item) n is.named is.nulls }))

-- a column of one node
pub pushed_alone : (f : FieldShape) (p : LentParts) (n : Node) (old new : List Node) → IsNodeOf f p n → is_alone (kind_of_field f) ≡ true → (read_lent (kind_of_field f) p).fault ≡ None
    → new ≡ old ++ n ∷ [] → ArePushed f (read_lent (kind_of_field f) p) old new
pushed_alone f p n old new is alone lawful pushed = record {
  own = n ∷ [];
  is = pushed;
  begins = alone_begins f p.length unknown p.buffers.now n is alone;
  lends = λ rest. lends_alone (kind_of_field f) n rest (read_lent (kind_of_field f) p) alone (over_alone f p n is alone lawful);
}

-- ---- codes

both_none : (children : List Reading) (dictionary : Option Reading) → do_parts_differ kind.dict (map inner_of children) (option_map inner_of dictionary) ≡ false → children ≡ []
both_none children dictionary h = none_present children (either_false _ _ h).0

-- indices and their texts
pub lent_dict : (n d : Node) → content_of n ≡ Some (content_of_kind kind.dict) → IsDictionary d → IsLentDict n d
lent_dict n d holds is = record { indices = holds; unnamed = is.unnamed; nullable = is.nullable }

-- codes with the texts behind them
pub pushed_coded : (f : FieldShape) (p : LentParts) (words : Seen) (n : Node) (old mid new : List Node) → IsNodeOf f p n → kind_of_field f ≡ kind.dict → (read_lent (kind_of_field f) p).fault ≡ None
    → option_map (λ w. arc_value w.now) p.words ≡ Some words → mid ≡ old ++ n ∷ [] → IsTextPushed words mid new → ArePushed f (read_lent (kind_of_field f) p) old new
pushed_coded (field name nullable (shape.int t)) p words n old mid new is coded lawful has pushed texts = cc
pushed_coded (field name nullable shape.boolean) p words n old mid new is coded lawful has pushed texts = cc
pushed_coded (field name nullable (shape.texts w)) p words n old mid new is coded lawful has pushed texts = cc
pushed_coded (field name nullable (shape.lists w item)) p words n old mid new is coded lawful has pushed texts = cc
pushed_coded (field name nullable shape.dict) p words n old mid new is coded lawful has pushed texts =
    let d = texts.own in
    let children = map reading p.children.now in
    let dictionary = option_map checked_texts (option_map (λ w. arc_value w.now) p.words) in
    let none = both_none children dictionary (parts_agree kind.dict p.length None p.buffers.now children dictionary lawful) in
    let over = over_read name nullable kind.dict kind.dict p.length p.buffers.now n children dictionary is in
    let named : dictionary ≡ Some (checked_texts texts.parts.seen) = ap (option_map checked_texts) has ∙ ap (λ s. Some (checked_texts s)) (sym texts.shows) in
    record {
      own = n ∷ d ∷ [];
      is = texts.is ∙ ap (λ l. l ++ d ∷ []) pushed ∙ append_assoc old (n ∷ []) (d ∷ []);
      begins = codes_begin name nullable p.length unknown p.buffers.now n d is texts.dictionary.holds;
      lends = λ rest. (
        lent_dict n d is.holds texts.dictionary,
        texts.parts,
        texts.lawful,
        texts.over,
        subst (λ (cs : List Reading). IsOver kind.dict n cs (Some (checked_texts texts.parts.seen)) (read_lent kind.dict p)) none
            (subst (λ (o : Option Reading). IsOver kind.dict n children o (read_lent kind.dict p)) named over),
      );
    }

-- ---- lists

child_none : (k : Kind) (n : ℕ) (stated : Option ℕ) (buffers : Buffers) (children : List Reading) (dictionary : Option Reading)
    → (read_parts k n stated buffers children dictionary).fault ≡ None → child_fault children ≡ None
unfolding read_parts
child_none k n stated buffers children dictionary h =
    let own = own_fault k n stated buffers (map inner_of children) (option_map inner_of dictionary) in
    let behind = dictionary_fault dictionary ∷ [] in
    (first-parts (child_fault children) behind (first-parts own (child_fault children ∷ behind) h).1).0

-- two lawful readings that show the same are one
one_reading : (r s : Reading) → checked r.seen ≡ r → checked s.seen ≡ s → r.seen ≡ s.seen → r ≡ s
one_reading r s again same shows = sym again ∙ ap checked shows ∙ same

kind_read : (raw : RawArray) → (reading raw).kind ≡ kind_of (out-RawArray raw).ty
unfolding read_parts
kind_read raw = ap (λ (q : Reading). q.kind) (reading-raw raw)

-- the parts of a list's child, as those of an array of its own
pub child_read : (k : Kind) (raw : RawArray) (children : List RawArray) → OneChild k children raw
    → read_checked k (out-RawArray raw).length (out-RawArray raw).buffers.items (out-RawArray raw).children.items None ≡ reading raw
child_read k raw children one =
    let r = out-RawArray raw in
    let made = MakesArray-plain raw one.lawful one.plain in
    let kinds : kind_of r.ty ≡ k = sym (kind_read raw) ∙ one.kind_is in
    ap (λ (j : Kind). read_checked j r.length r.buffers.items r.children.items None) (sym kinds)
    ∙ one_reading (read_checked (kind_of r.ty) r.length r.buffers.items r.children.items None) (reading raw)
    (reading-again (kind_of r.ty) r.length None r.buffers.items (map reading r.children.items) None made.lawful)
    (checked-reading raw one.lawful) made.shows

-- lists with the parts of their items behind them
pub pushed_listed : (f : FieldShape) (w : OffsetWidth) (item : FieldShape) (p : LentParts) (raw : RawArray) (n : Node) (inner : Reading) (old mid new : List Node) → IsNodeOf f p n
    → f ≡ field (name_of f) (is_nullable f) (shape.lists w item) → (read_lent (kind_of_field f) p).fault ≡ None → OneChild (kind_of_field item) p.children.now raw → inner ≡ reading raw
    → mid ≡ old ++ n ∷ [] → ArePushed item inner mid new → ArePushed f (read_lent (kind_of_field f) p) old new
pushed_listed (field name nullable ty) w item p raw n inner old mid new is listed lawful one read pushed items =
    subst (λ (s : Shape). ArePushed (field name nullable s) (read_lent (kind_of_field (field name nullable s)) p) old new) (sym same)
    (of_lists (subst (λ (s : Shape). IsNodeOf (field name nullable s) p n) same is) (subst (λ (s : Shape). (read_lent (kind_of_field (field name nullable s)) p).fault ≡ None) same lawful))
  where
    same : ty ≡ shape.lists w item
    same = cc listed

    of_lists : IsNodeOf (field name nullable (shape.lists w item)) p n → (read_lent (kind.lists w (kind_of_field item)) p).fault ≡ None
        → ArePushed (field name nullable (shape.lists w item)) (read_lent (kind.lists w (kind_of_field item)) p) old new
    of_lists is lawful =
        let k' = kind_of_field item in
        let k = kind.lists w k' in
        let children = map reading p.children.now in
        let dictionary = option_map checked_texts (option_map (λ w. arc_value w.now) p.words) in
        let none = no_dictionary dictionary (either_false (is_no_child k' (map inner_of children)) (not (is_none (option_map inner_of dictionary))) (parts_agree k p.length None p.buffers.now children dictionary lawful)).1 in
        let only : children ≡ inner ∷ [] = ap (map reading) one.is ∙ ap (λ r. r ∷ []) (sym read) in
        let over = over_read name nullable k k p.length p.buffers.now n children dictionary is in
        record {
          own = n ∷ items.own;
          is = items.is ∙ ap (λ l. l ++ items.own) pushed ∙ append_assoc old (n ∷ []) items.own;
          begins = lists_begin name nullable w item p.length unknown p.buffers.now n items.own is items.begins;
          lends = λ rest. (
            inner,
            items.lends rest,
            subst (λ (cs : List Reading). IsOver k n cs None (read_lent k p)) only (subst (λ (o : Option Reading). IsOver k n children o (read_lent k p)) none over),
          );
        }

-- the one child of lists
pub one_child : (w : OffsetWidth) (item : FieldShape) (f : FieldShape) (p : LentParts) (d : RawArray) → f ≡ field (name_of f) (is_nullable f) (shape.lists w item) → (read_lent (kind_of_field f) p).fault ≡ None
    → OneChild (kind_of_field item) p.children.now (slice_index_or p.children.now 0 d)
one_child w item f p d listed lawful =
    let k = kind_of_field item in
    let children = map reading p.children.now in
    let dictionary = option_map checked_texts (option_map (λ w. arc_value w.now) p.words) in
    let same : kind_of_field f ≡ kind.lists w k = ap kind_of_field listed in
    let is : (read_lent (kind.lists w k) p).fault ≡ None = subst (λ (j : Kind). (read_lent j p).fault ≡ None) same lawful in
    only_child k p.children.now d
    (either_false (is_no_child k (map inner_of children)) (not (is_none (option_map inner_of dictionary))) (parts_agree (kind.lists w k) p.length None p.buffers.now children dictionary is)).0
    (child_none (kind.lists w k) p.length None p.buffers.now children dictionary is)

-- a field at its level
pub field_at : (f : Field) → field_of f ≡ field (string_bytes (out-Field f).name) (out-Field f).nullable (shape_of (out-Field f).ty)
field_at f = fold_out-Field Shape FieldShape shape_step field_step f

pub node_of_field : (f : Field) (name : List ℕ) (length nulls : ℕ) (buffers : Buffers) (n : Node) → name ≡ string_bytes (out-Field f).name
    → IsNodeOver name (out-Field f).nullable (kind_of (out-Field f).ty) length nulls buffers n → IsHeadOf (field_of f) length nulls buffers n
node_of_field f name length nulls buffers n named is =
    subst (λ (k : Kind). IsNodeOver (name_of (field_of f)) (is_nullable (field_of f)) k length nulls buffers n) (sym (kind_of_field-field_of f))
    (subst (λ (b : Bool). IsNodeOver (name_of (field_of f)) b (kind_of (out-Field f).ty) length nulls buffers n) (sym (ap is_nullable (field_at f)))
    (subst (λ (m : List ℕ). IsNodeOver m (out-Field f).nullable (kind_of (out-Field f).ty) length nulls buffers n) (named ∙ sym (ap name_of (field_at f))) is))

by_shape : (f : Field) (s : Shape) → shape_of (out-Field f).ty ≡ s → field_of f ≡ field (name_of (field_of f)) (is_nullable (field_of f)) s
by_shape f s is =
    field_at f
    ∙ ap (field (string_bytes (out-Field f).name) (out-Field f).nullable) is
    ∙ ap (λ m. field m (out-Field f).nullable s) (sym (ap name_of (field_at f)))
    ∙ ap (λ b. field (name_of (field_of f)) b s) (sym (ap is_nullable (field_at f)))

shape_of-List : (item : Box Field Global) → shape_of (types.List item) ≡ shape.lists Narrow (field_of item.value)
shape_of-List item =
    fold_out-DataType Shape FieldShape shape_step field_step (types.List item)
    ∙ ap (λ o. shape_step (map-DataType DataType Field Shape FieldShape shape_of field_of o)) (outs-List' record { ptr = item.ptr; alloc = item.alloc; value = record {} } item.value.name item.value.nullable item.value.ty)

shape_of-LargeList : (item : Box Field Global) → shape_of (types.LargeList item) ≡ shape.lists Wide (field_of item.value)
shape_of-LargeList item =
    fold_out-DataType Shape FieldShape shape_step field_step (types.LargeList item)
    ∙ ap (λ o. shape_step (map-DataType DataType Field Shape FieldShape shape_of field_of o)) (outs-LargeList' record { ptr = item.ptr; alloc = item.alloc; value = record {} } item.value.name item.value.nullable item.value.ty)

-- the field of lists, by their type
pub listed_narrow : (f : Field) (item : Box Field Global) → (out-Field f).ty ≡ types.List item → field_of f ≡ field (name_of (field_of f)) (is_nullable (field_of f)) (shape.lists Narrow (field_of item.value))
listed_narrow f item is = by_shape f (shape.lists Narrow (field_of item.value)) (ap shape_of is ∙ shape_of-List item)

pub listed_wide : (f : Field) (item : Box Field Global) → (out-Field f).ty ≡ types.LargeList item → field_of f ≡ field (name_of (field_of f)) (is_nullable (field_of f)) (shape.lists Wide (field_of item.value))
listed_wide f item is = by_shape f (shape.lists Wide (field_of item.value)) (ap shape_of is ∙ shape_of-LargeList item)

-- a column of a type that needs no other node
pub alone_by : (f : Field) (ty : DataType) (k : Kind) → (out-Field f).ty ≡ ty → kind_of ty ≡ k → is_alone k ≡ true → is_alone (kind_of_field (field_of f)) ≡ true
alone_by f ty k is kinded alone = ap is_alone (kind_of_field-field_of f ∙ ap kind_of is ∙ kinded) ∙ alone

pub kind_by : (f : Field) (ty : DataType) (k : Kind) → (out-Field f).ty ≡ ty → kind_of ty ≡ k → kind_of_field (field_of f) ≡ k
kind_by f ty k is kinded = kind_of_field-field_of f ∙ ap kind_of is ∙ kinded

-- ---- by the arms of a match

pub kind_of-Dict : kind_of Dict ≡ kind.dict
kind_of-Dict =
    fold_out-DataType Kind Kind kind_step (λ f. f.ty) Dict
    ∙ ap (λ o. kind_step (map-DataType DataType Field Kind Kind kind_of (fold-Field Kind Kind kind_step (λ f. f.ty)) o)) outs-Dict

pub alone_of : (f : Field) → ((x : IntType) × ((out-Field f).ty ≡ Int x)) ⊎ (((out-Field f).ty ≡ variant.Bool) ⊎ (((out-Field f).ty ≡ Utf8) ⊎ ((out-Field f).ty ≡ LargeUtf8))) → is_alone (kind_of_field (field_of f)) ≡ true
alone_of f (inl is) = alone_by f (Int is.0) (kind.int is.0) is.1 (kind_of-Int is.0) refl
alone_of f (inr (inl is)) = alone_by f variant.Bool kind.boolean is kind_of-Bool refl
alone_of f (inr (inr (inl is))) = alone_by f Utf8 (kind.texts Narrow) is kind_of-Utf8 refl
alone_of f (inr (inr (inr is))) = alone_by f LargeUtf8 (kind.texts Wide) is kind_of-LargeUtf8 refl

-- Its field is one of lists of the item's.
pub record IsListed (f item : Field) : Type 0 where
  pub width : OffsetWidth
  pub is : field_of f ≡ field (name_of (field_of f)) (is_nullable (field_of f)) (shape.lists width (field_of item))

pub listed_of : (f : Field) (item : Box Field Global) → ((out-Field f).ty ≡ types.List item) ⊎ ((out-Field f).ty ≡ types.LargeList item) → IsListed f item.value
listed_of f item (inl is) = record { width = Narrow; is = listed_narrow f item is }
listed_of f item (inr is) = record { width = Wide; is = listed_wide f item is }

pub list_falls : (f item : Field) → IsListed f item → depth (kind_of_field (field_of item)) < depth (kind_of_field (field_of f))
list_falls f item listed = subst (λ (k : Kind). depth (kind_of_field (field_of item)) < depth k) (sym (ap kind_of_field listed.is)) (omega arith)

first_at : (children : List RawArray) (raw : RawArray) → Some raw ≡ slice_get children 0 → slice_index_or children 0 raw ≡ raw
first_at [] raw at = cc
first_at (c ∷ cs) raw at = cc at

-- the one child of a list's parts
pub child_of : (f item : Field) (p : LentParts) (raw : RawArray) → IsListed f item → (read_lent (kind_of_field (field_of f)) p).fault ≡ None → Some raw ≡ slice_get p.children.now 0
    → OneChild (kind_of_field (field_of item)) p.children.now raw
child_of f item p raw listed lawful at =
    subst (λ (r : RawArray). OneChild (kind_of_field (field_of item)) p.children.now r) (first_at p.children.now raw at) (one_child listed.width (field_of item) (field_of f) p raw listed.is lawful)

no_first : (k : Kind) (children : List RawArray) → None ≡ slice_get children 0 → is_no_child k (map inner_of (map reading children)) ≡ false → ⊥
no_first k [] none has = absurd (cc has)
no_first k (c ∷ cs) none has = absurd (cc none)

-- which there is
pub some_child : (f item : Field) (p : LentParts) → IsListed f item → (read_lent (kind_of_field (field_of f)) p).fault ≡ None → None ≡ slice_get p.children.now 0 → ⊥
some_child f item p listed lawful none =
    let k = kind_of_field (field_of item) in
    let children = map reading p.children.now in
    let dictionary = option_map checked_texts (option_map (λ w. arc_value w.now) p.words) in
    let is : (read_lent (kind.lists listed.width k) p).fault ≡ None = subst (λ (j : Kind). (read_lent j p).fault ≡ None) (ap kind_of_field listed.is) lawful in
    no_first k p.children.now none
    (either_false (is_no_child k (map inner_of children)) (not (is_none (option_map inner_of dictionary))) (parts_agree (kind.lists listed.width k) p.length None p.buffers.now children dictionary is)).0

no_words : (children : List Reading) (words : Option Seen) → words ≡ None → do_parts_differ kind.dict (map inner_of children) (option_map inner_of (option_map checked_texts words)) ≡ false → ⊥
no_words children None none agree = absurd (cc (either_false (not (length (map inner_of children) == 0)) true agree).1)
no_words children (Some w) none agree = absurd (cc none)

-- codes have texts
pub some_words : (f : FieldShape) (p : LentParts) → kind_of_field f ≡ kind.dict → (read_lent (kind_of_field f) p).fault ≡ None → option_map (λ w. arc_value w.now) p.words ≡ None → ⊥
some_words f p coded lawful none =
    let words = option_map (λ w. arc_value w.now) p.words in
    let children = map reading p.children.now in
    no_words children words none
    (parts_agree kind.dict p.length None p.buffers.now children (option_map checked_texts words) (subst (λ (j : Kind). (read_lent j p).fault ≡ None) coded lawful))

-- ---- columns

-- one more column behind the others
lends_last : (nodes mid rest : List Node) (fs : List FieldShape) (ss : List Seen) (f : FieldShape) (s : Seen) → LendsColumns nodes fs ss mid → Begins most_levels mid f rest → LendsColumn (kind_of_field f) mid s
    → LendsColumns nodes (fs ++ f ∷ []) (ss ++ s ∷ []) rest
lends_last nodes mid rest [] [] f s so_far begins lends =
    subst (λ (l : List Node). LendsColumns l (f ∷ []) (s ∷ []) rest) so_far (rest, begins, lends, refl)
lends_last nodes mid rest [] (t ∷ ss) f s so_far begins lends = absurd so_far
lends_last nodes mid rest (g ∷ fs) [] f s so_far begins lends = absurd so_far
lends_last nodes mid rest (g ∷ fs) (t ∷ ss) f s so_far begins lends =
    (so_far.0, so_far.1, so_far.2, lends_last so_far.0 mid rest fs ss f s so_far.3 begins lends)

-- The columns so far, whatever comes behind them.
abbrev pub LendsSoFar : List Node → List FieldShape → List Seen → Type 0
LendsSoFar nodes fs ss = (rest : List Node) → LendsColumns (nodes ++ rest) fs ss rest

pub lends_none : LendsSoFar [] [] []
lends_none = λ rest. refl

-- A lawful array is of no more levels than nodes have.
shallow_below : (k : Kind) → nat_lt 8 (depth k) ≡ false → depth k < most_levels
shallow_below k h = grind (arith, nat_tests)

pub levels_enough : (k : Kind) (p : LentParts) → (read_lent k p).fault ≡ None → depth k < most_levels
unfolding read_parts
levels_enough k p lawful =
    let children = map reading p.children.now in
    let dictionary = option_map checked_texts (option_map (λ w. arc_value w.now) p.words) in
    let own = own_fault k p.length None p.buffers.now (map inner_of children) (option_map inner_of dictionary) in
    shallow_below k
    (own_fault-none k p.length None p.buffers.now (map inner_of children) (option_map inner_of dictionary) (first-parts own (child_fault children ∷ dictionary_fault dictionary ∷ []) lawful).0).shallow

pub lends_more : (fields : List FieldShape) (columns : List Seen) (k : ℕ) (nodes new : List Node) (f : FieldShape) (s : Seen) (p : LentParts) → LendsSoFar nodes (take k fields) (take k columns)
    → slice_get fields k ≡ Some f → slice_get columns k ≡ Some s → (read_lent (kind_of_field f) p).fault ≡ None → (read_lent (kind_of_field f) p).seen ≡ s → ArePushed f (read_lent (kind_of_field f) p) nodes new
    → LendsSoFar new (take (k + 1) fields) (take (k + 1) columns)
lends_more fields columns k nodes new f s p so_far at_f at_s lawful shows pushed = λ rest.
    let mid = pushed.own ++ rest in
    let front : new ++ rest ≡ nodes ++ mid = ap (λ l. l ++ rest) pushed.is ∙ append_assoc nodes pushed.own rest in
    let last = lends_last (nodes ++ mid) mid rest (take k fields) (take k columns) f s (so_far mid) (pushed.begins most_levels (levels_enough (kind_of_field f) p lawful) rest)
    (record { parts = read_lent (kind_of_field f) p; lends = pushed.lends rest; lawful = lawful; shows = shows }) in
    subst (λ (l : List Node). LendsColumns l (take (k + 1) fields) (take (k + 1) columns) rest) (sym front)
    (subst (λ (fs : List FieldShape). LendsColumns (nodes ++ mid) fs (take (k + 1) columns) rest) (sym (one_more fields k f at_f))
    (subst (λ (ss : List Seen). LendsColumns (nodes ++ mid) (take k fields ++ f ∷ []) ss rest) (sym (one_more columns k s at_s)) last))
  where
    one_more : {A : Type 0} (xs : List A) (k : ℕ) (x : A) → slice_get xs k ≡ Some x → take (k + 1) xs ≡ take k xs ++ x ∷ []
    one_more xs k x at = take_more xs k x (slice_get_within xs k x at) ∙ ap (λ y. take k xs ++ y ∷ []) (get_or_from_slice_get xs k x x at)

-- all of them
pub lends_all : (fields : List FieldShape) (columns : List Seen) (n : ℕ) (nodes : List Node) → length fields ≤ n → length columns ≤ n → LendsSoFar nodes (take n fields) (take n columns) → LendsColumns nodes fields columns []
lends_all fields columns n nodes few_fields few_columns so_far =
    subst (λ (l : List Node). LendsColumns l fields columns []) (append-nil nodes)
    (subst (λ (fs : List FieldShape). LendsColumns (nodes ++ []) fs columns []) (take_all n fields few_fields)
    (subst (λ (ss : List Seen). LendsColumns (nodes ++ []) (take n fields) ss []) (take_all n columns few_columns) (so_far [])))

-- a column of a lawful batch has its field's kind
pub kind_at : (fields : List FieldShape) (rows : ℕ) (columns : List Seen) (k : ℕ) (f : FieldShape) (s : Seen) → batch_fault fields rows columns ≡ None → slice_get fields k ≡ Some f → slice_get columns k ≡ Some s
    → s.kind ≡ kind_of_field f
kind_at fields rows columns k f s lawful at_f at_s =
    let is = whole fields rows columns lawful in
    sym (ap (λ (x : Seen). x.kind) (get_or_from_slice_get columns k s s at_s)) ∙ kinds columns fields is.count is.kinds k s f (slice_get_within fields k f at_f) ∙ ap kind_of_field (get_or_from_slice_get fields k f f at_f)

pub as_many : (fields : List FieldShape) (rows : ℕ) (columns : List Seen) → batch_fault fields rows columns ≡ None → length columns ≡ length fields
as_many fields rows columns lawful = (whole fields rows columns lawful).count

-- A field and a column of a batch, at a place.
pub record AtColumn (fields : List Field) (columns : List Seen) (k : ℕ) (f : Field) (s : Seen) : Type 0 where
  pub at_f : slice_get (fields_of fields) k ≡ Some (field_of f)
  pub at_s : slice_get columns k ≡ Some s
  pub kind : s.kind ≡ kind_of_field (field_of f)

-- as many columns as fields
pub columns_few : (b : Batch) (fields : List Field) (columns : List Seen) → fields_of fields ≡ b.fields → columns ≡ b.columns → batch_fault b.fields b.rows b.columns ≡ None → length columns ≡ length fields
columns_few b fields columns of_fields of_columns lawful =
    ap (λ (ss : List Seen). length ss) of_columns ∙ as_many b.fields b.rows b.columns lawful ∙ ap (λ (fs : List FieldShape). length fs) (sym of_fields) ∙ length-map fields field_of

pub at_column : (b : Batch) (fields : List Field) (columns : List Seen) (k : ℕ) (f : Field) (s : Seen) → fields_of fields ≡ b.fields → columns ≡ b.columns → batch_fault b.fields b.rows b.columns ≡ None → k < length fields
    → f ≡ get_or fields k f → s ≡ get_or columns k s → AtColumn fields columns k f s
at_column b fields columns k f s of_fields of_columns lawful below is_f is_s =
    let count = columns_few b fields columns of_fields of_columns lawful in
    let at_f : slice_get (fields_of fields) k ≡ Some (field_of f) = slice_get-map field_of fields k ∙ ap (option_map field_of) (slice_get-get_or fields k f below) ∙ ap (λ g. Some (field_of g)) (sym is_f) in
    let at_s : slice_get columns k ≡ Some s = slice_get-get_or columns k s (omega (arith, below, count)) ∙ ap (λ x. Some x) (sym is_s) in
    record {
      at_f = at_f;
      at_s = at_s;
      kind = kind_at b.fields b.rows b.columns k (field_of f) s lawful (subst (λ (fs : List FieldShape). slice_get fs k ≡ Some (field_of f)) of_fields at_f) (subst (λ (ss : List Seen). slice_get ss k ≡ Some s) of_columns at_s);
    }

-- the columns of a whole batch
pub lends_batch : (b : Batch) (fields : List Field) (columns : List Seen) (n : ℕ) (nodes : List Node) → fields_of fields ≡ b.fields → columns ≡ b.columns → batch_fault b.fields b.rows b.columns ≡ None → length fields ≤ n
    → LendsSoFar nodes (take n (fields_of fields)) (take n columns) → LendsColumns nodes b.fields b.columns []
lends_batch b fields columns n nodes of_fields of_columns lawful few so_far =
    let count = columns_few b fields columns of_fields of_columns lawful in
    let whole = lends_all (fields_of fields) columns n nodes (omega (arith, few, length-map fields field_of)) (omega (arith, few, count)) so_far in
    subst (λ (fs : List FieldShape). LendsColumns nodes fs b.columns []) of_fields (subst (λ (ss : List Seen). LendsColumns nodes (fields_of fields) ss []) of_columns whole)
