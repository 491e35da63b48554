-- Columns of lists read back as they are printed.
use Rattle.std.proofs.Common.{◌≡◌, ◌∙◌, ℕ, zero, suc, ◌+◌, ◌<◌, ◌^◌, List, [], ◌∷◌, ◌++◌, length, take, true, false, not, Some, None, option_map, refl, sym, ap, subst, arith}
use Rattle.std.specs.Prelude.{slice_get, sum_by}
use Rattle.std.specs.List.{AllByRecursion}
use Rattle.std.proofs.lemmas.Bool.Decides.{nat_tests}
use Rattle.std.proofs.lemmas.List.Sums.{sum_by-cons}
use Rattle.std.proofs.Math.Seq.{drop-append-add, take-append_seam}
use Rattle.arrays.specs.Prelude.{IsItemOf, Item, Kind, OffsetWidth, Seen, depth, inner_items, is_null, items_in, length_at, no_entries, same_kind, slice, slot_at}
use Rattle.arrays.specs.Item as column
use Rattle.arrays.specs.Kind as kind
use Rattle.arrays.proofs.ListArrays.{read_lists}
use Rattle.arrays.proofs.ListLemmas.{list_of-items_of}
use Rattle.json_base.specs.Prelude.{Data}
use Rattle.json_read.specs.JsonList.{IsListColumn, ReadsLists, are_enough, list_slot, lists_fault, offset_bytes}
use Rattle.json_read.proofs.JsonLists.{lists_fault-is}
use Rattle.json_print.specs.ColumnData.{each, item_length, list_column, offsets_data, valid_data}
use Rattle.json_print.proofs.Columns.{list_size, list_sizes}
use Rattle.json_laws.proofs.ReadNumbers.{count_read}
use Rattle.json_laws.proofs.ReadOffsets.{begins, length-offsets, lengths, offsets_lawful, offsets_read, starts}
use Rattle.json_laws.proofs.ReadSlots.{length-each, valid_read}

-- ---- the items of a list, cut out of all

first_cut : (w : OffsetWidth) (k : Kind) (x : Item) (rest : List Item) → IsItemOf (kind.lists w k) x → slice (items_in x ++ rest) 0 (item_length x) ≡ items_in x
first_cut w k x rest h = ap (λ n. take n (items_in x ++ rest)) (list_size w k x h) ∙ take-append_seam (items_in x) rest

cut_out : (w : OffsetWidth) (k : Kind) (items : List Item) → AllByRecursion (IsItemOf (kind.lists w k)) items → (j : ℕ) (x : Item) → slice_get items j ≡ Some x
    → slice (inner_items items) (sum_by item_length (take j items)) (item_length x) ≡ items_in x
cut_out w k [] h j x at = absurd cc
cut_out w k (y ∷ ys) h zero x at =
    let same : y ≡ x = cc in
    subst (λ z. slice (items_in y ++ inner_items ys) 0 (item_length z) ≡ items_in z) same (first_cut w k y (inner_items ys) h.0)
cut_out w k (y ∷ ys) h (suc j) x at =
    let before = sum_by item_length (take j ys) in
    ap (λ n. slice (items_in y ++ inner_items ys) n (item_length x)) (sum_by-cons item_length y (take j ys) ∙ ap (λ n. n + before) (list_size w k y h.0))
    ∙ ap (take (item_length x)) (drop-append-add (items_in y) (inner_items ys) before)
    ∙ cut_out w k ys h.1 j x at

slot_items : (w : OffsetWidth) (k : Kind) (items : List Item) → sum_by item_length items < 2 ^ 31 → AllByRecursion (IsItemOf (kind.lists w k)) items → (j : ℕ) (x : Item) → slice_get items j ≡ Some x → j < length items
    → slot_at w (offset_bytes w (starts 0 items)) (inner_items items) j ≡ items_in x
slot_items w k items small h j x at within =
    let bytes = offset_bytes w (starts 0 items) in
    ap (λ n. slice (inner_items items) n (length_at w bytes j)) (begins w items small j (omega (arith, within)))
    ∙ ap (slice (inner_items items) (sum_by item_length (take j items))) (lengths w items small j x at)
    ∙ cut_out w k items h j x at

-- ---- slots

list_read : (w : OffsetWidth) (k : Kind) (x : Item) → IsItemOf (kind.lists w k) x → Some x ≡ list_slot (Some (not (is_null x))) (items_in x)
list_read w k column.null h = refl
list_read w k (column.int z) h = absurd h
list_read w k (column.boolean b) h = absurd h
list_read w k (column.text t) h = absurd h
list_read w k (column.list l) h = ap (λ m. Some (column.list m)) (sym (list_of-items_of l))

typed_at : (k : Kind) (items : List Item) (j : ℕ) (x : Item) → AllByRecursion (IsItemOf k) items → slice_get items j ≡ Some x → IsItemOf k x
typed_at k [] j x h at = absurd cc
typed_at k (y ∷ ys) zero x h at = let same : y ≡ x = cc in subst (IsItemOf k) same h.0
typed_at k (y ∷ ys) (suc j) x h at = typed_at k ys j x h.1 at

some_at : (items : List Item) (j : ℕ) → j < length items → (x : Item) × (slice_get items j ≡ Some x)
some_at [] j within = absurd (omega arith)
some_at (x ∷ xs) zero within = (x, refl)
some_at (x ∷ xs) (suc j) within = some_at xs j (omega arith)

slots_read : (w : OffsetWidth) (k : Kind) (items : List Item) → sum_by item_length items < 2 ^ 31 → AllByRecursion (IsItemOf (kind.lists w k)) items
    → ReadsLists w (Some (each valid_data items)) (offset_bytes w (starts 0 items)) (inner_items items) (length items) items
slots_read w k items small h = record {
  len = refl;
  each = λ j within.
      let x = some_at items j within in
      x.1
      ∙ list_read w k x.0 (typed_at (kind.lists w k) items j x.0 h x.1)
      ∙ ap (list_slot (Some (not (is_null x.0)))) (sym (slot_items w k items small h j x.0 x.1 within))
      ∙ ap (λ o. list_slot o (slot_at w (offset_bytes w (starts 0 items)) (inner_items items) j)) (sym (valid_read items j ∙ ap (option_map (λ y. not (is_null y))) x.1));
}

-- ---- the column

lawful : (w : OffsetWidth) (k : Kind) (items : List Item) → length items < 2 ^ 31 → sum_by item_length items < 2 ^ 31 → AllByRecursion (IsItemOf (kind.lists w k)) items → same_kind k kind.dict ≡ false → depth k < 8
    → lists_fault w k (length items) (offset_bytes w (starts 0 items)) (length (inner_items items)) ≡ None
lawful w k items few small h other shallow =
    let child : Seen = record { kind = k; validity = None; items = inner_items items; codes = []; entries = no_entries } in
    let bytes = offset_bytes w (starts 0 items) in
    let sizes = list_sizes w k items h in
    sym (lists_fault-is w (length items) None bytes child refl)
    ∙ read_lists w (length items) None bytes child (omega (arith, few)) refl (offsets_lawful w items (length (inner_items items)) small (omega (arith, sizes))) other shallow

enough : (n m : ℕ) → m ≡ suc n → are_enough n m ≡ true
enough n m is = grind (arith, nat_tests)

pub list_column_read : (Reads : ℕ → Data → List Item → Type 0) (w : OffsetWidth) (k : Kind) (child : Data) (name : List ℕ) (items : List Item) → length items < 2 ^ 31 → length (inner_items items) < 2 ^ 31
    → AllByRecursion (IsItemOf (kind.lists w k)) items → same_kind k kind.dict ≡ false → depth k < 8 → Reads (length (inner_items items)) child (inner_items items)
    → IsListColumn Reads w k (length items) (list_column w child name items) items
list_column_read Reads w k child name items few short h other shallow inner =
    let small : sum_by item_length items < 2 ^ 31 = omega (arith, list_sizes w k items h, short) in
    record {
      flags = Some (each valid_data items);
      offsets = offsets_data w 0 items;
      child = child;
      given = record {
        count = count_read (length items) few;
        validity = refl;
        flagged = length-each valid_data items;
        listed = refl;
        enough = enough (length items) _ (length-offsets w 0 items);
        children = refl;
      };
      numbers = starts 0 items;
      spelled = offsets_read w items small;
      m = length (inner_items items);
      below = inner_items items;
      inner = inner;
      lawful = lawful w k items few small h other shallow;
      slots = slots_read w k items small h;
    }
