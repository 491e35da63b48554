-- Columns one after the other.
use Rattle.std.proofs.Common.{◌≡◌, ◌∙◌, ℕ, ◌+◌, ◌<◌, ◌≤◌, ◌||◌, inl, inr, List, [], ◌∷◌, ◌++◌, length, take, drop, map, Bool, true, false, cond, Option, None, Some, Result, IfErr, ap, sym, refl, arith, subst, get_or, append_assoc, append-nil, length-append}
use Rattle.std.specs.Prelude.{slice_get, All, flat_map, sum_by, unwrap_or}
use Rattle.std.specs.List.{list_all}
use Rattle.std.proofs.lemmas.Grind.{flat_map-append}
use Rattle.std.proofs.lemmas.List.{drop_more, length-map, map-append, take-append-drop, take-map, take_more}
use Rattle.std.proofs.lemmas.List.Elements.{All-append}
use Rattle.std.proofs.lemmas.List.Sums.{AllPass-from_list_all, sum_by-append, sum_by-take-le}
use Rattle.std.proofs.lemmas.Option.{slice_get-get_or}
use Rattle.std.proofs.lemmas.Result.{IfErr-weaker}
use Rattle.std.proofs.lemmas.Bool.{or_cases}
use Rattle.arrays.specs.Prelude.{Item, Kind, OffsetWidth, Seen, cut, inner_items, is_full, is_past, is_too_big, item_kind, items_in, joined_items, list_length, null, same_kind, shown, text_bytes, text_length, total}
use Rattle.arrays.specs.Kind as kind
use Rattle.select.proofs.ChosenLemmas.{item-is}
use Rattle.arrays.proofs.ChildLemmas.{same_kinds}
use Rattle.select.specs.Prelude.{AreChildren, IsChild, IsFull, IsInner, IsList, concat_fault, is_content_too_big, joined, kind_of_first}
use Rattle.select.specs.declared.fault.SelectFault.{SelectFault}
use Rattle.select.specs.declared.fault.SelectFault.TheVariants.{TypesDiffer}
use Rattle.arrays.proofs.CutLemmas.{full-grows, past-more}
use Rattle.select.proofs.ListLemmas.{cut-again, total-lengths}
use Rattle.select.proofs.PickLemmas.{take-one}

-- ---- one slot after the other

-- one slot more of a column behind what was there
pub added-more : {A : Type 0} (f : Item → A) (items : List Item) (i : ℕ) (x : Item) (before old new : List A) (y : A) → slice_get items i ≡ Some x
    → old ≡ before ++ map f (take i items) → y ≡ f x → new ≡ old ++ y ∷ [] → new ≡ before ++ map f (take (i + 1) items)
added-more f items i x before old new y at is of more =
    more
    ∙ ap (λ l. l ++ y ∷ []) is
    ∙ append_assoc before (map f (take i items)) (y ∷ [])
    ∙ ap (λ z. before ++ (map f (take i items) ++ z ∷ [])) of
    ∙ ap (λ l. before ++ l) (sym (map-append f (take i items) (x ∷ [])))
    ∙ ap (λ l. before ++ map f l) (sym (take-one items i x at))

pub pushed-more : (items : List Item) (i : ℕ) (x : Item) (before old new : List Item) → slice_get items i ≡ Some x
    → old ≡ before ++ take i items → new ≡ old ++ x ∷ [] → new ≡ before ++ take (i + 1) items
pushed-more items i x before old new at is more =
    more
    ∙ ap (λ l. l ++ x ∷ []) is
    ∙ append_assoc before (take i items) (x ∷ [])
    ∙ ap (λ l. before ++ l) (sym (take-one items i x at))

-- a front of a column weighs no more than all of it
front-weighs : {A : Type 0} (w : A → ℕ) (before items : List A) (i : ℕ) → sum_by w (before ++ take i items) ≤ sum_by w (before ++ items)
front-weighs w before items i =
    omega (arith, sum_by-append w before (take i items), sum_by-append w before items, sum_by-take-le w items i)

-- lengths that are too many are so among all
pub past-lengths : (items : List Item) (i : ℕ) (before old : List (Option ℕ)) (y : Option ℕ) → i < length items
    → old ≡ before ++ map list_length (take i items) → y ≡ list_length (get_or items i null) → is_past (total (old ++ y ∷ [])) ≡ true → is_past (total (before ++ map list_length items)) ≡ true
past-lengths items i before old y below is of past =
    let front = added-more list_length items i (get_or items i null) before old (old ++ y ∷ []) y (slice_get-get_or items i null below) is of refl in
    let taken = ap (λ l. before ++ l) (sym (take-map list_length (i + 1) items)) in
    past-more (total (old ++ y ∷ [])) (total (before ++ map list_length items))
    (omega (arith, ap total (front ∙ taken), front-weighs (λ (l : Option ℕ). unwrap_or l 0) before (map list_length items) (i + 1))) past

-- ---- columns, of which some are still to come

pub rest-one : {A : Type 0} (f : Seen → List A) (columns : List Seen) (k : ℕ) (s : Seen) → k < length columns → s ≡ get_or columns k s
    → flat_map f (drop k columns) ≡ f s ++ flat_map f (drop (k + 1) columns)
rest-one f columns k s below is =
    ap (flat_map f) (drop_more columns k s below ∙ ap (λ x. x ∷ drop (k + 1) columns) (sym is))

-- what is there with the next column is a front of all
pub front-of : {A : Type 0} (f : Seen → List A) (columns : List Seen) (k : ℕ) (s : Seen) (old all : List A) → k < length columns → s ≡ get_or columns k s
    → old ++ flat_map f (drop k columns) ≡ all → (old ++ f s) ++ flat_map f (drop (k + 1) columns) ≡ all
front-of f columns k s old all below at is =
    append_assoc old (f s) (flat_map f (drop (k + 1) columns))
    ∙ ap (λ l. old ++ l) (sym (rest-one f columns k s below at))
    ∙ is

pub room-for : {A : Type 0} (f : Seen → List A) (columns : List Seen) (k : ℕ) (s : Seen) (old all : List A) → k < length columns → s ≡ get_or columns k s
    → old ++ flat_map f (drop k columns) ≡ all → length old + length (f s) ≤ length all
room-for {A = A} f columns k s old all below at is =
    let rest = flat_map f (drop (k + 1) columns) in
    omega (arith, ap (λ (l : List A). length l) (front-of f columns k s old all below at is), length-append (old ++ f s) rest, length-append old (f s))

-- the lengths of all lists, column by column
pub lengths_by_column : (columns : List Seen) → map list_length (joined_items columns) ≡ flat_map (λ s. map list_length s.items) columns
lengths_by_column [] = refl
lengths_by_column (s ∷ rest) = map-append list_length s.items (joined_items rest) ∙ ap (λ l. map list_length s.items ++ l) (lengths_by_column rest)

pub lengths-room : (columns : List Seen) (k : ℕ) (s : Seen) (old : List (Option ℕ)) → k < length columns → s ≡ get_or columns k s
    → old ++ flat_map (λ s. map list_length s.items) (drop k columns) ≡ map list_length (joined_items columns) → length old + length s.items ≤ length (joined_items columns)
lengths-room columns k s old below at is =
    omega (arith, room-for (λ s. map list_length s.items) columns k s old (map list_length (joined_items columns)) below at is, length-map s.items list_length, length-map (joined_items columns) list_length)

-- lists with the next column's that are too long are so among all
pub past-column : (columns : List Seen) (k : ℕ) (s : Seen) (old : List (Option ℕ)) → k < length columns → s ≡ get_or columns k s
    → old ++ flat_map (λ s. map list_length s.items) (drop k columns) ≡ map list_length (joined_items columns)
    → is_past (total (old ++ map list_length s.items)) ≡ true → is_past (length (inner_items (joined_items columns))) ≡ true
past-column columns k s old below at is past =
    let rest = flat_map (λ s. map list_length s.items) (drop (k + 1) columns) in
    let front = front-of (λ s. map list_length s.items) columns k s old (map list_length (joined_items columns)) below at is in
    past-more (total (old ++ map list_length s.items)) (length (inner_items (joined_items columns)))
    (omega (arith, ap total front, sum_by-append (λ (l : Option ℕ). unwrap_or l 0) (old ++ map list_length s.items) rest, total-lengths (joined_items columns))) past

-- texts with the next column's that are too long are so among all
pub full-texts : (w : OffsetWidth) (columns : List Seen) (k : ℕ) (s : Seen) (old : List Item) → k < length columns → s ≡ get_or columns k s
    → old ++ joined_items (drop k columns) ≡ joined_items columns → is_full w (text_bytes (old ++ s.items)) ≡ true → is_full w (text_bytes (joined_items columns)) ≡ true
full-texts w columns k s old below at is full =
    let rest = joined_items (drop (k + 1) columns) in
    let front = front-of (λ (x : Seen). x.items) columns k s old (joined_items columns) below at is in
    full-grows w (text_bytes (old ++ s.items)) (text_bytes (joined_items columns)) (omega (arith, ap text_bytes front, sum_by-append text_length (old ++ s.items) rest)) full

-- ---- too much of one column is too much of all

pub or-left : (a b : Bool) → a ≡ true → (a || b) ≡ true
or-left a b h = ap (λ x. x || b) h

pub or-right : (a b : Bool) → b ≡ true → (a || b) ≡ true
or-right true b h = refl
or-right false b h = h

inner-around : (before items after : List Item) → inner_items (before ++ (items ++ after)) ≡ inner_items before ++ (inner_items items ++ inner_items after)
inner-around before items after = flat_map-append items_in before (items ++ after) ∙ ap (λ l. inner_items before ++ l) (flat_map-append items_in items after)

length-around : {A : Type 0} (before items after : List A) → length items ≤ length (before ++ (items ++ after))
length-around before items after = omega (arith, length-append before (items ++ after), length-append items after)

pub too_big-around : (k : Kind) (before items after : List Item) → is_too_big k items ≡ true → is_too_big k (before ++ (items ++ after)) ≡ true
too_big-around (kind.int t) before items after h = cc
too_big-around kind.boolean before items after h = cc
too_big-around kind.dict before items after h = cc
too_big-around (kind.texts w) before items after h =
    full-grows w (text_bytes items) (text_bytes (before ++ (items ++ after))) (omega (arith, sum_by-append text_length before (items ++ after), sum_by-append text_length items after)) h
too_big-around (kind.lists w k) before items after h =
    let all = before ++ (items ++ after) in
    let inner = inner-around before items after in
    elim (or_cases (is_past (length (inner_items items))) (is_too_big k (inner_items items)) h) [
      | inl past ↦
          or-left (is_past (length (inner_items all))) (is_too_big k (inner_items all)) (past-more (length (inner_items items)) (length (inner_items all))
          (omega (arith, ap (λ (l : List Item). length l) inner, length-around (inner_items before) (inner_items items) (inner_items after))) past)
      | inr big ↦
          or-right (is_past (length (inner_items all))) (is_too_big k (inner_items all)) (ap (is_too_big k) inner ∙ too_big-around k (inner_items before) (inner_items items) (inner_items after) big)
    ]

-- the items of columns before one, of it, and of those behind it
items-around : (columns : List Seen) (k : ℕ) (s : Seen) → k < length columns → s ≡ get_or columns k s
    → joined_items columns ≡ joined_items (take k columns) ++ (s.items ++ joined_items (drop (k + 1) columns))
items-around columns k s below at =
    ap joined_items (sym (take-append-drop k columns))
    ∙ flat_map-append (λ s. s.items) (take k columns) (drop k columns)
    ∙ ap (λ l. joined_items (take k columns) ++ l) (rest-one (λ s. s.items) columns k s below at)

pub too_big-of_all : (kind : Kind) (columns : List Seen) (k : ℕ) (s : Seen) → k < length columns → s ≡ get_or columns k s
    → is_too_big kind s.items ≡ true → is_too_big kind (joined_items columns) ≡ true
too_big-of_all kind columns k s below at h =
    ap (is_too_big kind) (items-around columns k s below at) ∙ too_big-around kind (joined_items (take k columns)) s.items (joined_items (drop (k + 1) columns)) h

-- ---- children of lists

joined-more : (columns : List Seen) (k : ℕ) (s : Seen) → k < length columns → s ≡ get_or columns k s
    → joined_items (take (k + 1) columns) ≡ joined_items (take k columns) ++ s.items
joined-more columns k s below at =
    ap joined_items (take_more columns k s below ∙ ap (λ x. take k columns ++ x ∷ []) (sym at))
    ∙ flat_map-append (λ s. s.items) (take k columns) (s ∷ [])
    ∙ ap (λ l. joined_items (take k columns) ++ l) (append-nil s.items)

All-one : {A : Type 0} (P : A → Type 0) (x : A) → P x → All P (x ∷ [])
All-one P x h Rattle.std.proofs.Common.zero d below = h
All-one P x h (Rattle.std.proofs.Common.suc k) d below = absurd (omega (arith, below))

-- the kind of each of columns of lists
pub item-here : (kind : Kind) (columns : List Seen) (k : ℕ) (s : Seen) → k < length columns → s ≡ get_or columns k s → All (λ (c : Seen). item_kind c.kind ≡ Some kind) columns → item_kind s.kind ≡ Some kind
item-here kind columns k s below at all = ap (λ (c : Seen). item_kind c.kind) at ∙ all k s below

pub AreChildren-more : (kind : Kind) (columns children more : List Seen) (k : ℕ) (s child : Seen) → k < length columns → s ≡ get_or columns k s
    → AreChildren kind (take k columns) children → IsChild s child → child.kind ≡ kind → more ≡ children ++ child ∷ [] → AreChildren kind (take (k + 1) columns) more
AreChildren-more kind columns children more k s child below at are is same more_is =
    let wider = joined-more columns k s below at in
    record {
      count = omega (arith, are.count, ap (λ (l : List Seen). length l) more_is, length-append children (child ∷ []), ap (λ (l : List Seen). length l) (take_more columns k s below), length-append (take k columns) (get_or columns k s ∷ []));
      kinds = subst (All (λ (c : Seen). c.kind ≡ kind)) (sym more_is) (All-append (λ (c : Seen). c.kind ≡ kind) children (child ∷ []) are.kinds (All-one (λ (c : Seen). c.kind ≡ kind) child same));
      items =
          ap joined_items more_is
          ∙ flat_map-append (λ s. s.items) children (child ∷ [])
          ∙ ap (λ l. joined_items children ++ l) (append-nil child.items ∙ is.items)
          ∙ ap (λ l. l ++ inner_items s.items) are.items
          ∙ sym (flat_map-append items_in (joined_items (take k columns)) s.items)
          ∙ ap inner_items (sym wider);
      lists = subst (All IsList) (sym wider) (All-append IsList (joined_items (take k columns)) s.items are.lists is.lists);
      inner = λ some. subst IsInner same is.inner;
    }

-- ---- kinds

-- columns that aren't dictionary-encoded
pub joined-shown : (k : Kind) (columns : List Seen) → same_kind k kind.dict ≡ false → joined k columns ≡ shown k (joined_items columns)
joined-shown kind.dict columns h = cc
joined-shown k columns h = refl

pub content-shown : (k : Kind) (columns : List Seen) → same_kind k kind.dict ≡ false → is_content_too_big k columns ≡ is_too_big k (joined_items columns)
content-shown kind.dict columns h = cc
content-shown k columns h = refl

pub first-kind : (columns : List Seen) (s : Seen) → 1 ≤ length columns → s ≡ get_or columns 0 s → kind_of_first columns ≡ s.kind
first-kind [] s some at = absurd (omega (arith, some))
first-kind (x ∷ rest) s some at = ap (λ (q : Seen). q.kind) (sym at)

pub fault-of : (columns : List Seen) (k : Kind) (same : Bool) → kind_of_first columns ≡ k → same ≡ list_all (λ (s : Seen). same_kind s.kind k) columns
    → concat_fault columns ≡ cond same None (Some TypesDiffer)
fault-of columns k same first is =
    ap (λ j. cond (list_all (λ (s : Seen). same_kind s.kind j) columns) None (Some TypesDiffer)) first ∙ ap (λ b. cond b None (Some TypesDiffer)) (sym is)

pub kinds-of : (columns : List Seen) (k : Kind) → list_all (λ (s : Seen). same_kind s.kind k) columns ≡ true → All (λ (s : Seen). s.kind ≡ k) columns
kinds-of columns k all = λ i d below. same_kinds (get_or columns i d).kind k (AllPass-from_list_all (λ (s : Seen). same_kind s.kind k) columns all i d below)

-- the kind of each of columns that have one
pub kind-here : (kind : Kind) (columns : List Seen) (k : ℕ) (s : Seen) → k < length columns → s ≡ get_or columns k s → All (λ (c : Seen). c.kind ≡ kind) columns → s.kind ≡ kind
kind-here kind columns k s below at all = ap (λ (c : Seen). c.kind) at ∙ all k s below

-- a fault of a part, reported of all
pub full-more : {T : Type 0} (r : Result T SelectFault) (one all : Bool) → (one ≡ true → all ≡ true) → IfErr r (IsFull one) → IfErr r (IsFull all)
full-more r one all grows reported =
    IfErr-weaker r (IsFull one) (IsFull all) (λ e t. elim t [ inl h ↦ inl (h.0, grows h.1) | inr h ↦ inr h ]) reported

pub rest-length : {A : Type 0} (f : Seen → List A) (columns : List Seen) (k : ℕ) (s : Seen) → k < length columns → s ≡ get_or columns k s
    → length (flat_map f (drop k columns)) ≡ length (f s) + length (flat_map f (drop (k + 1) columns))
rest-length {A = A} f columns k s below at = ap (λ (l : List A). length l) (rest-one f columns k s below at) ∙ length-append (f s) (flat_map f (drop (k + 1) columns))

-- what holds of the columns before one holds with it
pub All-more : (P : Seen → Type 0) (columns : List Seen) (k : ℕ) (s : Seen) → k < length columns → s ≡ get_or columns k s → All P (take k columns) → P s → All P (take (k + 1) columns)
All-more P columns k s below at all here =
    subst (All P) (sym (take_more columns k s below ∙ ap (λ x. take k columns ++ x ∷ []) (sym at))) (All-append P (take k columns) (s ∷ []) all (All-one P s here))

-- ---- lists of the children's rows

pub child-shown : (k j : Kind) (columns parts children : List Seen) (child : Seen) → AreChildren k columns children → 1 ≤ length columns → parts ≡ children → j ≡ k
    → child ≡ joined j parts → child ≡ shown k (inner_items (joined_items columns))
child-shown k j columns parts children child are some same kind_is is =
    is
    ∙ ap (λ i. joined i parts) kind_is
    ∙ ap (joined k) same
    ∙ joined-shown k children (are.inner some).no_dict
    ∙ ap (shown k) are.items

-- what is too big of lists, by the kind of their items
pub too_big-list : (k l : Kind) (items : List Item) → item_kind k ≡ Some l → is_too_big k items ≡ (is_past (length (inner_items items)) || is_too_big l (inner_items items))
too_big-list (kind.int t) l items h = cc
too_big-list kind.boolean l items h = cc
too_big-list (kind.texts w) l items h = cc
too_big-list kind.dict l items h = cc
too_big-list (kind.lists w k) l items h = ap (λ j. is_past (length (inner_items items)) || is_too_big j (inner_items items)) (item-is k l h)

pub child-too_big : (w : OffsetWidth) (k j : Kind) (columns parts children : List Seen) → AreChildren k columns children → 1 ≤ length columns → parts ≡ children → j ≡ k
    → is_content_too_big j parts ≡ true → is_content_too_big (kind.lists w k) columns ≡ true
child-too_big w k j columns parts children are some same kind_is big =
    or-right (is_past (length (inner_items (joined_items columns)))) (is_too_big k (inner_items (joined_items columns)))
    (ap (is_too_big k) (sym are.items)
    ∙ sym (content-shown k children (are.inner some).no_dict)
    ∙ ap (is_content_too_big k) (sym same)
    ∙ ap (λ i. is_content_too_big i parts) (sym kind_is)
    ∙ big)

pub lists-joined : (w v : OffsetWidth) (k : Kind) (columns children : List Seen) (lengths : List (Option ℕ)) (child : Seen) → AreChildren k columns children → v ≡ w → lengths ≡ map list_length (joined_items columns)
    → child ≡ shown k (inner_items (joined_items columns)) → shown (kind.lists v child.kind) (cut lengths child.items) ≡ joined (kind.lists w k) columns
lists-joined w v k columns children lengths child are same lengths_are is =
    let items = joined_items columns in
    ap (λ u. shown (kind.lists u child.kind) (cut lengths child.items)) same
    ∙ ap (λ (q : Seen). shown (kind.lists w q.kind) (cut lengths q.items)) is
    ∙ ap (λ l. shown (kind.lists w k) (cut l (inner_items items))) lengths_are
    ∙ ap (shown (kind.lists w k)) (cut-again items are.lists)
