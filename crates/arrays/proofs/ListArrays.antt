-- A list column over a child, made of parts that are known to be lawful.
use Rattle.std.proofs.Common.{◌≡◌, ◌∙◌, ℕ, suc, ◌<◌, ◌≤◌, List, [], ◌∷◌, map, Bool, true, false, not, cond, ◌&&◌, length, Option, Some, None, option_map, ap, sym, refl, arith, le-ltb, eq-eqb}
use Rattle.layout.specs.declared.fault.LayoutFault.{LayoutFault}
use Rattle.layout.specs.declared.raw.RawArray.{RawArray, RawArray-F, roll-RawArray, out-roll-RawArray}
use Rattle.std.specs.Arc.{arc_value}
use Rattle.types.specs.declared.offset_width.OffsetWidth.{OffsetWidth}
use Rattle.types.specs.declared.offset_width.OffsetWidth.TheVariants.{Narrow, Wide}
use Rattle.types.specs.Kind as kind
use Rattle.types.specs.Prelude.{Kind, bytes_of, depth, first, kind_of, most_slots, same_kind, same_offsets}
use Rattle.layout.specs.Prelude.{AreOffsetBytes, Buffers, Inner, Reading, Seen, checked, checked_texts, column, do_parts_differ, inner_children, inner_dictionary, inner_of, is_validity_short, own_fault, own_fault_of, read_parts, reading, start_at}
use Rattle.arrays.specs.Prelude.{kind_with, list_parts, read_alone, read_array, show_array, show_lists, words_with}
use Rattle.arrays.specs.declared.array.Array.TheInside.{Inside}
use Rattle.layout.proofs.FirstFaultLemmas.{own_fault-whole, present-reading}
use Rattle.arrays.proofs.FromPartsLemmas.{offsets_pass}
use Rattle.arrays.proofs.PartsLemmas.{kind-array, kind-plain}
use Rattle.layout.proofs.LawfulLemmas.{either_false, no_dictionary, parts_agree, reading-again}

-- ---- the parts of an array that has no dictionary

none_present : (k : Kind) (children : List Inner) (dictionary : Option Reading) → same_kind k kind.dict ≡ false
    → do_parts_differ k children (option_map inner_of dictionary) ≡ false → dictionary ≡ None
none_present (kind.int t) children dictionary other h = no_dictionary dictionary (either_false _ _ h).1
none_present kind.boolean children dictionary other h = no_dictionary dictionary (either_false _ _ h).1
none_present (kind.texts w) children dictionary other h = no_dictionary dictionary (either_false _ _ h).1
none_present (kind.lists w k) children dictionary other h = no_dictionary dictionary (either_false _ _ h).1
none_present kind.dict children dictionary other h = cc

-- the parts of an array are read without its words
pub read-wordless : (a : Inside) → (read_array a).fault ≡ None → same_kind (show_array a).kind kind.dict ≡ false
    → read_alone (kind_of (arc_value a.parts).ty) (arc_value a.parts) None ≡ checked (show_array a)
read-wordless a lawful other =
    let p = arc_value a.parts in
    let k = kind_with (kind_of p.ty) a.encoding in
    let children = map reading p.children.items in
    let words = option_map checked_texts (words_with a.encoding) in
    let not_dict : same_kind k kind.dict ≡ false = ap (λ k. same_kind k kind.dict) (sym (kind-array a)) ∙ other in
    let wordless = none_present k (map inner_of children) words not_dict (parts_agree k p.length None p.buffers.items children words lawful) in
    ap (λ k. read_parts k p.length None p.buffers.items children None) (sym (kind-plain (kind_of p.ty) a.encoding not_dict))
    ∙ ap (read_parts k p.length None p.buffers.items children) (sym wordless)
    ∙ sym (reading-again k p.length None p.buffers.items children words lawful)

-- ---- lists

sign_same : (b : Bool) → cond b b (not b) ≡ true
sign_same true = refl
sign_same false = refl

same_offsets-refl : (w : OffsetWidth) → same_offsets w w ≡ true
same_offsets-refl Narrow = refl
same_offsets-refl Wide = refl

-- a kind is the same as itself
pub same_kind-refl : (k : Kind) → same_kind k k ≡ true
same_kind-refl (kind.int t) = rw (eq-eqb (bytes_of t.bits) (bytes_of t.bits) refl) (sign_same t.signed)
same_kind-refl kind.boolean = refl
same_kind-refl (kind.texts w) = same_offsets-refl w
same_kind-refl (kind.lists w k) = ap (λ b. b && same_kind k k) (same_offsets-refl w) ∙ same_kind-refl k
same_kind-refl kind.dict = refl

-- a child and the list's parts, as they were handed in
pub read_over : (k l : Kind) (m n : ℕ) (buffers parts : Buffers) (children : List RawArray) (raw : RawArray) (child : Seen)
    → k ≡ l → m ≡ n → buffers ≡ parts → children ≡ raw ∷ [] → reading raw ≡ checked child
    → read_parts k m None buffers (map reading children) None ≡ read_parts l n None parts (checked child ∷ []) None
read_over k l m n buffers parts children raw child kind_is len_is buffers_are one is =
    ap (λ k. read_parts k m None buffers (map reading children) None) kind_is
    ∙ ap (λ m. read_parts l m None buffers (map reading children) None) len_is
    ∙ ap (λ b. read_parts l n None b (map reading children) None) buffers_are
    ∙ ap (λ rs. read_parts l n None parts (map reading rs) None) one
    ∙ ap (λ r. read_parts l n None parts (r ∷ []) None) is

own_fault-list : (w : OffsetWidth) (n : ℕ) (validity : Option (List ℕ)) (offsets : List ℕ) (child : Seen) → n ≤ most_slots → is_validity_short n validity ≡ false
    → AreOffsetBytes w n offsets (length child.items) → same_kind child.kind kind.dict ≡ false → depth child.kind < 8
    → own_fault (kind.lists w child.kind) n None (validity ∷ Some offsets ∷ []) (inner_of (checked child) ∷ []) None ≡ None
own_fault-list w n validity offsets child short valid are other shallow =
    let pass = offsets_pass w n offsets (length child.items) are in
    own_fault-whole (kind.lists w child.kind) n None (validity ∷ Some offsets ∷ []) (inner_of (checked child) ∷ []) None record {
      short = le-ltb most_slots n short;
      shallow = le-ltb 8 (suc (depth child.kind)) (omega arith);
      none_missing = refl;
      none_extra = refl;
      parts_agree = rw (same_kind-refl child.kind) (rw other refl);
      validity_enough = valid;
      data_enough = pass.enough;
      none_negative = pass.none_negative;
      none_decreases = pass.none_decreases;
      within_end = le-ltb (length child.items) (start_at w offsets n) are.last;
      count_agrees = refl;
      all_texts = refl;
      all_codes = refl;
    }

pub read_lists : (w : OffsetWidth) (n : ℕ) (validity : Option (List ℕ)) (offsets : List ℕ) (child : Seen) → n ≤ most_slots → is_validity_short n validity ≡ false
    → AreOffsetBytes w n offsets (length child.items) → same_kind child.kind kind.dict ≡ false → depth child.kind < 8
    → (read_parts (kind.lists w child.kind) n None (validity ∷ Some offsets ∷ []) (checked child ∷ []) None).fault ≡ None
unfolding read_parts
read_lists w n validity offsets child short valid are other shallow =
    ap (λ f. first (f ∷ None ∷ None ∷ [])) (own_fault-list w n validity offsets child short valid are other shallow)

pub show_read_lists : (w : OffsetWidth) (n : ℕ) (validity : Option (List ℕ)) (offsets : List ℕ) (child : Seen)
    → (read_parts (kind.lists w child.kind) n None (validity ∷ Some offsets ∷ []) (checked child ∷ []) None).seen ≡ show_lists w n validity offsets child
unfolding read_parts column
show_read_lists w n validity offsets child = refl

-- ---- lists of parts that are checked

alone : (o : Option LayoutFault) → o ≡ first (o ∷ None ∷ None ∷ [])
alone None = refl
alone (Some fault) = refl

own_fault-roll : (r : RawArray-F RawArray)
    → own_fault_of (roll-RawArray r) ≡ own_fault (kind_of r.ty) r.length r.null_count r.buffers.items (inner_children r.children.items) (inner_dictionary r.dictionary)
own_fault-roll r =
    ap (λ (q : RawArray-F RawArray). own_fault (kind_of q.ty) q.length q.null_count q.buffers.items (inner_children q.children.items) (inner_dictionary q.dictionary)) (out-roll-RawArray r)

-- a list over a lawful child has no fault but its own
pub own_over : (w : OffsetWidth) (r : RawArray-F RawArray) (below : RawArray) (k : Kind) (n : ℕ) (validity : Option (List ℕ)) (offsets : List ℕ) (child : Seen)
    → kind_of r.ty ≡ kind.lists w k → r.length ≡ n → r.null_count ≡ None → r.buffers.items ≡ validity ∷ Some offsets ∷ [] → r.children.items ≡ below ∷ [] → r.dictionary ≡ None
    → reading below ≡ checked child → own_fault_of (roll-RawArray r) ≡ (list_parts w k n validity offsets child).fault
unfolding read_parts
own_over w r below k n validity offsets child kind_is len_is unstated buffers_are one wordless is =
    let parts = validity ∷ Some offsets ∷ [] in
    own_fault-roll r
    ∙ ap (λ l. own_fault l r.length r.null_count r.buffers.items (inner_children r.children.items) (inner_dictionary r.dictionary)) kind_is
    ∙ ap (λ m. own_fault (kind.lists w k) m r.null_count r.buffers.items (inner_children r.children.items) (inner_dictionary r.dictionary)) len_is
    ∙ ap (λ stated. own_fault (kind.lists w k) n stated r.buffers.items (inner_children r.children.items) (inner_dictionary r.dictionary)) unstated
    ∙ ap (λ b. own_fault (kind.lists w k) n None b (inner_children r.children.items) (inner_dictionary r.dictionary)) buffers_are
    ∙ ap (λ cs. own_fault (kind.lists w k) n None parts (inner_children cs) (inner_dictionary r.dictionary)) one
    ∙ ap (λ d. own_fault (kind.lists w k) n None parts (inner_children (below ∷ [])) (inner_dictionary d)) wordless
    ∙ ap (λ c. own_fault (kind.lists w k) n None parts (c ∷ []) None) (sym (present-reading below) ∙ ap inner_of is)
    ∙ alone (own_fault (kind.lists w k) n None parts (inner_of (checked child) ∷ []) None)
