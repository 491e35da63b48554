-- What lawful parts are, read in other ways.
use Rattle.std.proofs.Common.{◌≡◌, ◌∙◌, ◌||◌, ℕ, suc, List, [], ◌∷◌, ◌++◌, map, Bool, true, false, not, nat_eq, is_none, length, Option, Some, None, option_map, ap, sym, refl, subst, arith}
use Rattle.std.proofs.lemmas.Bool.Decides.{nat_tests}
use Rattle.std.proofs.lemmas.Bool.{false≢true}
use Rattle.layout.specs.declared.fault.LayoutFault.{LayoutFault}
use Rattle.layout.specs.declared.fault.LayoutFault.TheVariants.{OffsetNegative, OffsetDecreases, OffsetPastEnd, NullCountDiffers, NotUtf8, IndexPastDictionary}
use Rattle.std.specs.Option.{ForSome}
use Rattle.std.specs.declared.boxed.Box.{Box}
use Rattle.std.specs.declared.alloc.Global.{Global}
use Rattle.layout.specs.declared.raw.RawArray.{RawArray, out-RawArray}
use Rattle.types.specs.declared.offset_width.OffsetWidth.{OffsetWidth}
use Rattle.types.specs.declared.offset_width.OffsetWidth.TheVariants.{Narrow, Wide}
use Rattle.types.specs.Kind as kind
use Rattle.types.specs.Prelude.{Kind, first, kind_of, same_kind}
use Rattle.layout.specs.Prelude.{Buffers, Inner, Reading, Seen, bad_code_row, bad_text_row, checked, checked_texts, child_fault, decreasing_row, dictionary_fault, do_parts_differ, does_count_differ, fault, has_negative_offset, inner_of, is_past_end, own_fault, read_checked, read_parts, reading, shape_faults}
use Rattle.std.specs.Bool.{then_some}
use Rattle.layout.proofs.FirstFaultLemmas.{own_fault-none, reading-raw}
use Rattle.layout.proofs.SeenLemmas.{seen-kind, length-items}

-- ---- the first of several

pub first-parts : (o : Option LayoutFault) (rest : List (Option LayoutFault)) → first (o ∷ rest) ≡ None → (o ≡ None) × (first rest ≡ None)
first-parts None rest h = (refl, h)
first-parts (Some fault) rest h = cc

three_none : (a b c : Option LayoutFault) → first (a ∷ b ∷ c ∷ []) ≡ None → (a ≡ None) × (b ≡ None) × (c ≡ None)
three_none None None None h = (refl, refl, refl)
three_none None None (Some fault) h = cc
three_none None (Some fault) c h = cc
three_none (Some fault) b c h = cc

-- where none stands, none stands without one of them
first-without : (before : List (Option LayoutFault)) (o : Option LayoutFault) (after : List (Option LayoutFault)) → first (before ++ o ∷ after) ≡ None → first (before ++ None ∷ after) ≡ None
first-without [] None after h = h
first-without [] (Some fault) after h = cc
first-without (None ∷ before) o after h = first-without before o after h
first-without (Some fault ∷ before) o after h = cc

-- ---- a lawful array is lawful without a stated null count, and shows the same

own_fault-unstated : (k : Kind) (n : ℕ) (stated : Option ℕ) (buffers : Buffers) (children : List Inner) (dictionary : Option Inner)
    → own_fault k n stated buffers children dictionary ≡ None → own_fault k n None buffers children dictionary ≡ None
unfolding own_fault
own_fault-unstated k n stated buffers children dictionary h =
    first-without
    (shape_faults k n buffers children dictionary
    ++ then_some (has_negative_offset k n buffers) OffsetNegative ∷ option_map (λ row. OffsetDecreases row) (decreasing_row k n buffers) ∷ then_some (is_past_end k n buffers children) OffsetPastEnd ∷ [])
    (then_some (does_count_differ stated n buffers) NullCountDiffers)
    (option_map (λ row. NotUtf8 row) (bad_text_row k n buffers) ∷ option_map (λ row. IndexPastDictionary row) (bad_code_row k n buffers dictionary) ∷ [])
    h

pub lawful-unstated : (k : Kind) (n : ℕ) (stated : Option ℕ) (buffers : Buffers) (children : List Reading) (dictionary : Option Reading)
    → (read_parts k n stated buffers children dictionary).fault ≡ None → (read_parts k n None buffers children dictionary).fault ≡ None
unfolding read_parts
lawful-unstated k n stated buffers children dictionary h =
    let parts = first-parts _ _ h in
    let own = own_fault-unstated k n stated buffers (map inner_of children) (option_map inner_of dictionary) parts.0 in
    ap (λ o. first (o ∷ child_fault children ∷ dictionary_fault dictionary ∷ [])) own ∙ parts.1

pub seen-unstated : (k : Kind) (n : ℕ) (stated : Option ℕ) (buffers : Buffers) (children : List Reading) (dictionary : Option Reading)
    → (read_parts k n None buffers children dictionary).seen ≡ (read_parts k n stated buffers children dictionary).seen
unfolding read_parts
seen-unstated k n stated buffers children dictionary = refl

-- ---- children and dictionaries of lawful arrays

pub parts_agree : (k : Kind) (n : ℕ) (stated : Option ℕ) (buffers : Buffers) (children : List Reading) (dictionary : Option Reading)
    → (read_parts k n stated buffers children dictionary).fault ≡ None → do_parts_differ k (map inner_of children) (option_map inner_of dictionary) ≡ false
unfolding read_parts
parts_agree k n stated buffers children dictionary h =
    (own_fault-none k n stated buffers (map inner_of children) (option_map inner_of dictionary) (first-parts _ _ h).0).parts_agree

pub either_false : (a b : Bool) → (a || b) ≡ false → (a ≡ false) × (b ≡ false)
either_false true b h = cc
either_false false b h = (refl, h)

some_length : (n : ℕ) → not (nat_eq (suc n) 0) ≡ false → ⊥
some_length n h = grind (arith, nat_tests)

pub none_present : (children : List Reading) → not (nat_eq (length (map inner_of children)) 0) ≡ false → children ≡ []
none_present [] h = refl
none_present (c ∷ cs) h = absurd (some_length (length (map inner_of cs)) h)

pub no_dictionary : (dictionary : Option Reading) → not (is_none (option_map inner_of dictionary)) ≡ false → dictionary ≡ None
no_dictionary None h = refl
no_dictionary (Some d) h = cc

-- a lawful text array has neither child nor dictionary
pub text_alone : (w : OffsetWidth) (n : ℕ) (stated : Option ℕ) (buffers : Buffers) (children : List Reading) (dictionary : Option Reading)
    → (read_parts (kind.texts w) n stated buffers children dictionary).fault ≡ None → (children ≡ []) × (dictionary ≡ None)
text_alone w n stated buffers children dictionary h =
    let parts = either_false _ _ (parts_agree (kind.texts w) n stated buffers children dictionary h) in
    (none_present children parts.0, no_dictionary dictionary parts.1)

same_as_utf8 : (k : Kind) → not (same_kind k kind.utf8) ≡ false → k ≡ kind.utf8
same_as_utf8 (kind.int t) h = cc
same_as_utf8 kind.boolean h = cc
same_as_utf8 (kind.texts Narrow) h = refl
same_as_utf8 (kind.texts Wide) h = cc
same_as_utf8 (kind.lists w k) h = cc
same_as_utf8 kind.dict h = cc

dictionary_kind : (k : Kind) (children : List Inner) (d : Inner) → do_parts_differ k children (Some d) ≡ false → d.kind ≡ kind.utf8
dictionary_kind (kind.int t) children d h = absurd (false≢true (sym (either_false _ _ h).1))
dictionary_kind kind.boolean children d h = absurd (false≢true (sym (either_false _ _ h).1))
dictionary_kind (kind.texts w) children d h = absurd (false≢true (sym (either_false _ _ h).1))
dictionary_kind (kind.lists w k) children d h = absurd (false≢true (sym (either_false _ _ h).1))
dictionary_kind kind.dict children d h = same_as_utf8 d.kind (either_false _ _ h).1

-- the dictionary of a lawful array is a lawful text array
pub dictionary_lawful : (k : Kind) (n : ℕ) (stated : Option ℕ) (buffers : Buffers) (children : List Reading) (d : Reading)
    → (read_parts k n stated buffers children (Some d)).fault ≡ None → (d.fault ≡ None) × (d.kind ≡ kind.utf8)
unfolding read_parts
dictionary_lawful k n stated buffers children d h =
    let none = three_none (own_fault k n stated buffers (map inner_of children) (Some (inner_of d))) (child_fault children) d.fault h in
    (none.2, dictionary_kind k (map inner_of children) (inner_of d) (parts_agree k n stated buffers children (Some d) h))

-- ---- a lawful raw array, read again from what it shows

pub reading-again : (k : Kind) (n : ℕ) (stated : Option ℕ) (buffers : Buffers) (children : List Reading) (dictionary : Option Reading)
    → (read_parts k n stated buffers children dictionary).fault ≡ None
    → checked (read_parts k n stated buffers children dictionary).seen ≡ read_parts k n stated buffers children dictionary
unfolding read_parts
reading-again k n stated buffers children dictionary h =
    let s = (read_parts k n stated buffers children dictionary).seen in
    ap (λ q. record { kind = q; length = length s.items; fault = None; seen = s }) (seen-kind k n stated buffers children dictionary)
    ∙ ap (λ m. record { kind = k; length = m; fault = None; seen = s }) (length-items k n stated buffers children dictionary)
    ∙ ap (λ f. record { kind = k; length = n; fault = f; seen = s }) (sym h)

pub checked-reading : (raw : RawArray) → fault raw ≡ None → checked (reading raw).seen ≡ reading raw
checked-reading raw h =
    let r = out-RawArray raw in
    let is = reading-raw raw in
    let lawful = sym (ap (λ (q : Reading). q.fault) is) ∙ h in
    ap (λ (q : Reading). checked q.seen) is
    ∙ reading-again (kind_of r.ty) r.length r.null_count r.buffers.items (map reading r.children.items) (option_map (λ b. reading b.value) r.dictionary) lawful
    ∙ sym is

-- ---- the texts of a lawful raw array of texts

kind-raw : (raw : RawArray) → (reading raw).kind ≡ kind_of (out-RawArray raw).ty
unfolding read_parts
kind-raw raw = ap (λ (q : Reading). q.kind) (reading-raw raw)

-- texts alone: a lawful raw array of texts by its length and buffers
pub record AreTexts (raw : RawArray) : Type 0 where
  pub lawful : (read_parts kind.utf8 (out-RawArray raw).length None (out-RawArray raw).buffers.items [] None).fault ≡ None
  pub shows : (read_parts kind.utf8 (out-RawArray raw).length None (out-RawArray raw).buffers.items [] None).seen ≡ (reading raw).seen

pub texts_of : (n : ℕ) (stated : Option ℕ) (buffers : Buffers) (children : List Reading) (dictionary : Option Reading)
    → (read_parts kind.utf8 n stated buffers children dictionary).fault ≡ None
    → ((read_parts kind.utf8 n None buffers [] None).fault ≡ None) × ((read_parts kind.utf8 n None buffers [] None).seen ≡ (read_parts kind.utf8 n stated buffers children dictionary).seen)
texts_of n stated buffers children dictionary h =
    let alone = text_alone Narrow n stated buffers children dictionary h in
    let plain = lawful-unstated kind.utf8 n stated buffers children dictionary h in
    let same : read_parts kind.utf8 n None buffers children dictionary ≡ read_parts kind.utf8 n None buffers [] None =
    ap (λ cs. read_parts kind.utf8 n None buffers cs dictionary) alone.0 ∙ ap (read_parts kind.utf8 n None buffers []) alone.1 in (
      sym (ap (λ (q : Reading). q.fault) same) ∙ plain,
      sym (ap (λ (q : Reading). q.seen) same) ∙ seen-unstated kind.utf8 n stated buffers children dictionary,
    )

pub AreTexts-raw : (raw : RawArray) → fault raw ≡ None → (reading raw).kind ≡ kind.utf8 → AreTexts raw
AreTexts-raw raw h text =
    let r = out-RawArray raw in
    let children = map reading r.children.items in
    let dictionary = option_map (λ b. reading b.value) r.dictionary in
    let is = reading-raw raw ∙ ap (λ k. read_parts k r.length r.null_count r.buffers.items children dictionary) (sym (kind-raw raw) ∙ text) in
    let texts = texts_of r.length r.null_count r.buffers.items children dictionary (sym (ap (λ (q : Reading). q.fault) is) ∙ h) in
    record { lawful = texts.0; shows = texts.1 ∙ sym (ap (λ (q : Reading). q.seen) is) }

-- ---- an array of a lawful raw array's parts

-- what the dictionary, if there is one, is checked for
pub dictionary_raw : (raw : RawArray) → fault raw ≡ None → ForSome (out-RawArray raw).dictionary (λ b. (fault b.value ≡ None) × ((reading b.value).kind ≡ kind.utf8))
dictionary_raw raw h =
    let r = out-RawArray raw in
    present_dictionary_raw (kind_of r.ty) r.length r.null_count r.buffers.items (map reading r.children.items) r.dictionary (sym (ap (λ (q : Reading). q.fault) (reading-raw raw)) ∙ h) where
      present_dictionary_raw : (k : Kind) (n : ℕ) (stated : Option ℕ) (buffers : Buffers) (children : List Reading) (d : Option (Box RawArray Global))
          → (read_parts k n stated buffers children (option_map (λ b. reading b.value) d)).fault ≡ None → ForSome d (λ b. (fault b.value ≡ None) × ((reading b.value).kind ≡ kind.utf8))
      present_dictionary_raw k n stated buffers children None h = λ x e. cc
      present_dictionary_raw k n stated buffers children (Some b) h =
          λ x e.
          let same : b ≡ x = cc in
          subst (λ (y : Box RawArray Global). (fault y.value ≡ None) × ((reading y.value).kind ≡ kind.utf8)) same (dictionary_lawful k n stated buffers children (reading b.value) h)

-- checked texts are a checked array
checked_texts-is : (s : Seen) → s.kind ≡ kind.utf8 → checked_texts s ≡ checked s
checked_texts-is s is = ap (λ k. record { kind = k; length = length s.items; fault = None; seen = s }) (sym is)

-- a checked dictionary is read as the raw one was
checked_words : (d : Option (Box RawArray Global)) → ForSome d (λ b. (fault b.value ≡ None) × ((reading b.value).kind ≡ kind.utf8))
    → option_map checked_texts (option_map (λ b. (reading b.value).seen) d) ≡ option_map (λ b. reading b.value) d
checked_words None h = refl
checked_words (Some b) h =
    let is = checked-reading b.value (h b refl).0 in
    let texts : (reading b.value).seen.kind ≡ kind.utf8 = ap (λ (q : Reading). q.kind) is ∙ (h b refl).1 in
    ap (λ r. Some r) (checked_texts-is (reading b.value).seen texts ∙ is)

-- The parts of a lawful raw array make an array that is lawful and shows the same.
pub record MakesArray (raw : RawArray) (words : Option Seen) : Type 0 where
  pub lawful : (read_checked (kind_of (out-RawArray raw).ty) (out-RawArray raw).length (out-RawArray raw).buffers.items (out-RawArray raw).children.items words).fault ≡ None
  pub shows : (read_checked (kind_of (out-RawArray raw).ty) (out-RawArray raw).length (out-RawArray raw).buffers.items (out-RawArray raw).children.items words).seen ≡ (reading raw).seen

pub MakesArray-raw : (raw : RawArray) (words : Option Seen) → fault raw ≡ None → words ≡ option_map (λ b. (reading b.value).seen) (out-RawArray raw).dictionary → MakesArray raw words
MakesArray-raw raw words h is =
    let r = out-RawArray raw in
    let k = kind_of r.ty in
    let children = map reading r.children.items in
    let dictionary = option_map (λ b. reading b.value) r.dictionary in
    let read = reading-raw raw in
    let lawful = sym (ap (λ (q : Reading). q.fault) read) ∙ h in
    let same : read_checked k r.length r.buffers.items r.children.items words ≡ read_parts k r.length None r.buffers.items children dictionary =
    ap (read_parts k r.length None r.buffers.items children) (ap (option_map checked_texts) is ∙ checked_words r.dictionary (dictionary_raw raw h)) in
    record {
      lawful = ap (λ (q : Reading). q.fault) same ∙ lawful-unstated k r.length r.null_count r.buffers.items children dictionary lawful;
      shows =
          ap (λ (q : Reading). q.seen) same
          ∙ seen-unstated k r.length r.null_count r.buffers.items children dictionary
          ∙ sym (ap (λ (q : Reading). q.seen) read);
    }
