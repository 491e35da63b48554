-- A view of a dictionary-encoded array.
use Rattle.std.proofs.Common.{◌≡◌, ◌∙◌, ℕ, zero, suc, ◌+◌, ◌<◌, ◌≤◌, ◌&&◌, ◌||◌, ℤ, pos, negsuc, int_lt, nat_lt, ltb-true, le-ltb, List, [], ◌∷◌, map, Bool, true, false, not, length, take, drop, cond, Some, None, Option, option_map, slice_get, get_or, All, ap, sym, refl, subst, arith, zero-add}
use Rattle.std.specs.List.{range_with_len}
use Rattle.std.specs.Arc.{arc_value}
use Rattle.std.specs.Option.{IsSome}
use Rattle.std.proofs.Math.Seq.{take-nil}
use Rattle.std.proofs.lemmas.Bool.{and_parts, false≢true}
use Rattle.std.proofs.lemmas.List.{drop-map, length-map, take-map}
use Rattle.std.proofs.lemmas.List.Elements.{All-from_get_or}
use Rattle.std.proofs.lemmas.List.FromFn.{get_or-map-range_with_len, length-map-range_with_len}
use Rattle.std.proofs.lemmas.Option.{slice_get-map, get_or_from_slice_get}
use Rattle.colbits.specs.Slice.{slice}
use Rattle.layout.specs.Prelude.{Buffers, Inner, Item, Reading, Seen, checked_texts, child_fault, code_at, codes, column, do_parts_differ, entries_of, entry_count, inner_of, int, is_no_code, is_valid, null, own_fault, part, read_parts, reading, valid_at}
use Rattle.types.specs.Kind as kind
use Rattle.types.specs.Prelude.{Kind, first, int32, is_negative, natural, number_at, same_kind}
use Rattle.arrays.specs.Prelude.{HasNumbers, codes_of, dictionary_of, encoded, entries_shown, is_code, is_text, looked_up, read_view, show_view, texts_alone, view_kind}
use Rattle.arrays.specs.declared.view.ViewType.{ViewType}
use Rattle.arrays.specs.declared.view.ViewType.TheVariants as type
use Rattle.types.specs.declared.offset_width.OffsetWidth.{OffsetWidth}
use Rattle.arrays.specs.declared.view.View.TheInside.{Inside}
use Rattle.layout.proofs.FirstFaultLemmas.{IsWhole, own_fault-whole}
use Rattle.layout.proofs.OffsetLemmas.{fails-least_none}
use Rattle.arrays.proofs.PartLemmas.{kind_shown, valid_slot, null_slot}
use Rattle.arrays.proofs.SlotLemmas.{slice-column, whole}
use Rattle.layout.proofs.LawfulLemmas.{either_false, none_present}

-- ---- the codes are a lawful array of their own

childless : (n : ℕ) (buffers : Buffers) (children : List Reading) (dictionary : Option Reading)
    → (read_parts kind.dict n None buffers children dictionary).fault ≡ None → children ≡ []
childless n buffers children dictionary lawful =
    none_present children (either_false _ _ (whole kind.dict n None buffers children dictionary lawful).parts_agree).0

codes_whole : (n : ℕ) (buffers : Buffers) (dictionary : Option Inner) → IsWhole kind.dict n None buffers [] dictionary → IsWhole (kind.int int32) n None buffers [] None
codes_whole n buffers dictionary w = record {
  short = w.short;
  shallow = refl;
  none_missing = w.none_missing;
  none_extra = w.none_extra;
  parts_agree = refl;
  validity_enough = w.validity_enough;
  data_enough = w.data_enough;
  none_negative = refl;
  none_decreases = refl;
  within_end = refl;
  count_agrees = w.count_agrees;
  all_texts = refl;
  all_codes = refl;
}

pub codes_lawful : (n : ℕ) (buffers : Buffers) (children : List Reading) (dictionary : Option Reading)
    → (read_parts kind.dict n None buffers children dictionary).fault ≡ None → (read_parts (kind.int int32) n None buffers children None).fault ≡ None
unfolding read_parts
codes_lawful n buffers children dictionary lawful =
    let none = childless n buffers children dictionary lawful in
    let w = whole kind.dict n None buffers children dictionary lawful in
    let own = own_fault-whole (kind.int int32) n None buffers [] None (codes_whole n buffers (option_map inner_of dictionary) (subst (λ (cs : List Reading). IsWhole kind.dict n None buffers (map inner_of cs) (option_map inner_of dictionary)) none w)) in
    ap (λ (cs : List Reading). first (own_fault (kind.int int32) n None buffers (map inner_of cs) None ∷ child_fault cs ∷ None ∷ [])) none
    ∙ ap (λ f. first (f ∷ None ∷ None ∷ [])) own

-- ---- what they show

slice-nil : {A : Type 0} (start len : ℕ) → slice {A = A} [] start len ≡ []
slice-nil start len = ap (take len) (drop-nil start) ∙ take-nil len where
  drop-nil : {A : Type 0} (n : ℕ) → drop {A = A} n [] ≡ []
  drop-nil zero = refl
  drop-nil (suc n) = refl

-- the codes of a whole array
pub codes-whole : (n : ℕ) (buffers : Buffers) (children : List Reading) (dictionary : Option Reading)
    → (read_parts (kind.int int32) n None buffers children None).seen ≡ codes_of (read_parts kind.dict n None buffers children dictionary).seen
unfolding read_parts codes column
codes-whole n buffers children dictionary = refl

pub codes-seen : (n : ℕ) (buffers : Buffers) (children : List Reading) (dictionary : Option Reading) (start len : ℕ)
    → part start len (read_parts (kind.int int32) n None buffers children None).seen ≡ codes_of (part start len (read_parts kind.dict n None buffers children dictionary).seen)
unfolding read_parts codes column
codes-seen n buffers children dictionary start len =
    let s = part start len (read_parts kind.dict n None buffers children dictionary).seen in
    ap (λ cs. record { kind = kind.int int32; validity = s.validity; items = s.codes; codes = cs; entries = record { validity = None; items = [] } }) (slice-nil start len)

-- ---- the items are those that the codes name

map-range-map : {X Y : Type 0} (f : ℕ → X) (h : X → Y) (g : ℕ → Y) (a n : ℕ) → ((j : ℕ) → g j ≡ h (f j)) → map g (range_with_len a n) ≡ map h (map f (range_with_len a n))
map-range-map f h g a zero same = refl
map-range-map f h g a (suc n) same =
    ap (λ x. x ∷ map g (range_with_len (a + 1) n)) (same a) ∙ ap (λ xs. h (f a) ∷ xs) (map-range-map f h g (a + 1) n same)

named_slot : (b : Bool) (entries : List Item) (z : ℤ) → cond b (get_or entries (natural z) null) null ≡ looked_up entries (cond b (int z) null)
named_slot true entries z = refl
named_slot false entries z = refl

named_slots : (n : ℕ) (buffers : Buffers) (child entries : List Item) → column kind.dict n buffers child entries ≡ map (looked_up entries) (column (kind.int int32) n buffers [] [])
unfolding column
named_slots n buffers child entries =
    map-range-map (λ j. cond (is_valid buffers j) (int (code_at buffers j)) null) (looked_up entries) (λ j. cond (is_valid buffers j) (get_or entries (natural (code_at buffers j)) null) null) 0 n
    (λ j. named_slot (is_valid buffers j) entries (code_at buffers j))

slice-map : {X Y : Type 0} (f : X → Y) (xs : List X) (start len : ℕ) → slice (map f xs) start len ≡ map f (slice xs start len)
slice-map f xs start len = ap (take len) (drop-map f start xs) ∙ take-map f len (drop start xs)

pub named-part : (n : ℕ) (buffers : Buffers) (children : List Reading) (dictionary : Option Reading) (start len : ℕ) → let s = part start len (read_parts kind.dict n None buffers children dictionary).seen in
    s.items ≡ map (looked_up s.entries.items) s.codes
unfolding read_parts codes column
named-part n buffers children dictionary start len =
    let entries = (entries_of dictionary).items in
    ap (λ xs. slice xs start len) (named_slots n buffers [] entries) ∙ slice-map (looked_up entries) (column (kind.int int32) n buffers [] []) start len

encoded-is : (s : Seen) → s.kind ≡ kind.dict → s.items ≡ map (looked_up s.entries.items) s.codes → s ≡ encoded (codes_of s) (dictionary_of s)
encoded-is s dict named =
    ap (λ k. record { kind = k; validity = s.validity; items = s.items; codes = s.codes; entries = s.entries }) dict
    ∙ ap (λ xs. record { kind = kind.dict; validity = s.validity; items = xs; codes = s.codes; entries = s.entries }) named

-- ---- each code names an entry

both_sides : (a b : Bool) → (a || not b) ≡ false → (not a && b) ≡ true
both_sides true b h = cc
both_sides false true h = refl
both_sides false false h = cc

code_fits : (b : Bool) (z : ℤ) (n : ℕ) → (b && (is_negative z || not (int_lt z (pos n)))) ≡ false → is_code n (cond b (int z) null) ≡ true
code_fits true z n h = both_sides (is_negative z) (int_lt z (pos n)) h
code_fits false z n h = refl

counted : (words : Option Seen) → entry_count (option_map inner_of (option_map checked_texts words)) ≡ length (entries_of (option_map checked_texts words)).items
counted None = refl
counted (Some s) = refl

pub codes_fit : (n : ℕ) (buffers : Buffers) (children : List Reading) (words : Option Seen) (start len : ℕ)
    → (read_parts kind.dict n None buffers children (option_map checked_texts words)).fault ≡ None → start + len ≤ n → let s = part start len (read_parts kind.dict n None buffers children (option_map checked_texts words)).seen in
    All (λ c. is_code (length s.entries.items) c ≡ true) s.codes
unfolding read_parts codes
codes_fit n buffers children words start len lawful within =
    let w = whole kind.dict n None buffers children (option_map checked_texts words) lawful in
    let entries = length (entries_of (option_map checked_texts words)).items in
    let slot : ℕ → Item = λ j. cond (is_valid buffers (start + j)) (int (code_at buffers (start + j))) null in
    let fits : (j : ℕ) → j < len → is_code entries (slot j) ≡ true =
    λ j h.
    code_fits (is_valid buffers (start + j)) (code_at buffers (start + j)) entries
    (ap (λ m. is_no_code buffers m (start + j)) (sym (counted words)) ∙ fails-least_none (is_no_code buffers (entry_count (option_map inner_of (option_map checked_texts words)))) n w.all_codes (start + j) (omega (arith, h, within))) in
    let are = slice-column (kind.int int32) n buffers [] [] start len within in
    subst (All (λ c. is_code entries c ≡ true)) (sym are) (All-from_get_or (λ c. is_code entries c ≡ true) (map slot (range_with_len 0 len)) null (λ i h.
    let below : i < len = omega (arith, h, length-map-range_with_len slot 0 len) in
    ap (is_code entries) (get_or-map-range_with_len slot 0 len i i null below (zero-add i)) ∙ fits i below))

-- ---- a view

words_there : {X : Type 0} (f : X → Seen) (o : Option X) (children : List Inner) → do_parts_differ kind.dict children (option_map inner_of (option_map checked_texts (option_map f o))) ≡ false → IsSome o
words_there f None children h = absurd (false≢true (sym (either_false _ _ h).1))
words_there f (Some x) children h = refl

dict_entries : (n : ℕ) (buffers : Buffers) (children : List Reading) (dictionary : Option Reading) → (read_parts kind.dict n None buffers children dictionary).seen.entries ≡ entries_of dictionary
unfolding read_parts
dict_entries n buffers children dictionary = refl

-- a dictionary-encoded view: its codes, and the dictionary that they name
pub record ViewCodes (v : Inside) (s : Seen) : Type 0 where
  pub lawful : (read_parts (kind.int int32) v.total None v.buffers.now (map reading v.children.now) None).fault ≡ None
  pub shows : part v.start v.len (read_parts (kind.int int32) v.total None v.buffers.now (map reading v.children.now) None).seen ≡ codes_of s
  pub named : s ≡ encoded (codes_of s) (dictionary_of s)
  pub fit : All (λ c. is_code (length s.entries.items) c ≡ true) s.codes
  pub there : IsSome v.words
  pub entries : entries_of (option_map checked_texts (option_map (λ w. arc_value w.now) v.words)) ≡ s.entries

pub codes_of_view : (v : Inside) (s : Seen) → show_view v ≡ s → s.kind ≡ kind.dict → (read_view v).fault ≡ None → v.start + v.len ≤ v.total → ViewCodes v s
codes_of_view v s shows dict lawful within =
    let children = map reading v.children.now in
    let words = option_map (λ w. arc_value w.now) v.words in
    let is = kind_shown v s shows ∙ dict in
    let same : read_view v ≡ read_parts kind.dict v.total None v.buffers.now children (option_map checked_texts words) =
    ap (λ k. read_parts k v.total None v.buffers.now children (option_map checked_texts words)) is in
    let lawful_dict = sym (ap (λ (r : Reading). r.fault) same) ∙ lawful in
    let shown : part v.start v.len (read_parts kind.dict v.total None v.buffers.now children (option_map checked_texts words)).seen ≡ s =
    sym (ap (λ (r : Reading). part v.start v.len r.seen) same) ∙ shows in
    let w = whole kind.dict v.total None v.buffers.now children (option_map checked_texts words) lawful_dict in
    record {
      lawful = codes_lawful v.total v.buffers.now children (option_map checked_texts words) lawful_dict;
      shows = codes-seen v.total v.buffers.now children (option_map checked_texts words) v.start v.len ∙ ap codes_of shown;
      named = encoded-is s dict (subst (λ (q : Seen). q.items ≡ map (looked_up q.entries.items) q.codes) shown (named-part v.total v.buffers.now children (option_map checked_texts words) v.start v.len));
      fit = subst (λ (q : Seen). All (λ c. is_code (length q.entries.items) c ≡ true) q.codes) shown (codes_fit v.total v.buffers.now children words v.start v.len lawful_dict within);
      there = words_there (λ w. arc_value w.now) v.words (map inner_of children) w.parts_agree;
      entries = sym (dict_entries v.total v.buffers.now children (option_map checked_texts words)) ∙ ap (λ (q : Seen). q.entries) shown;
    }

-- ---- one slot

-- the item of a slot, by its code
pub named_item : (s : Seen) (i : ℕ) (c : Item) → s ≡ encoded (codes_of s) (dictionary_of s) → slice_get s.codes i ≡ Some c → slice_get s.items i ≡ Some (looked_up s.entries.items c)
named_item s i c named code =
    ap (λ (q : Seen). slice_get q.items i) named ∙ slice_get-map (looked_up s.entries.items) s.codes i ∙ ap (option_map (looked_up s.entries.items)) code

-- a code that names an entry
pub record NamesEntry (z : ℤ) (n : ℕ) : Type 0 where
  pub counted : is_negative z ≡ false
  pub number : z ≡ pos (natural z)
  pub below : natural z < n

names_entry : (z : ℤ) (n : ℕ) → is_code n (int z) ≡ true → NamesEntry z n
names_entry (pos k) n h =
    let natural_first : nat_lt k 0 ≡ false = le-ltb k 0 (omega arith) in
    record { counted = natural_first; number = refl; below = ltb-true k n (and_parts (not (nat_lt k 0)) (nat_lt k n) h).1 }
names_entry (negsuc k) n h = cc

-- the code of a valid slot
pub record ValidCode (s : Seen) (bytes : List ℕ) (i : ℕ) : Type 0 where
  pub counted : is_negative (number_at int32 bytes i) ≡ false
  pub code : slice_get s.codes i ≡ Some (int (pos (natural (number_at int32 bytes i))))
  pub below : natural (number_at int32 bytes i) < length s.entries.items

pub valid_code : (s codes : Seen) (bytes : List ℕ) (i : ℕ) → codes ≡ codes_of s → HasNumbers int32 bytes codes → All (λ c. is_code (length s.entries.items) c ≡ true) s.codes
    → i < length codes.items → valid_at codes i ≡ true → ValidCode s bytes i
valid_code s codes bytes i is has fit within valid =
    let z = number_at int32 bytes i in
    let there : slice_get s.codes i ≡ Some (int z) =
    ap (λ (q : Seen). slice_get q.items i) (sym is) ∙ valid_slot (λ j. int (number_at int32 bytes j)) codes i has.numbers within valid in
    let inside : i < length s.codes = subst (λ (q : Seen). i < length q.items) is within in
    let names = names_entry z (length s.entries.items) (ap (is_code (length s.entries.items)) (sym (get_or_from_slice_get s.codes i (int z) null there)) ∙ fit i null inside) in
    record {
      counted = names.counted;
      code = there ∙ ap (λ q. Some (int q)) names.number;
      below = names.below;
    }

pub null_code : (s codes : Seen) (bytes : List ℕ) (i : ℕ) → codes ≡ codes_of s → HasNumbers int32 bytes codes → i < length codes.items → valid_at codes i ≡ false → slice_get s.codes i ≡ Some null
null_code s codes bytes i is has within none =
    ap (λ (q : Seen). slice_get q.items i) (sym is) ∙ null_slot (λ j. int (number_at int32 bytes j)) codes i has.numbers within none

-- ---- texts

pub texts_seen : (n : ℕ) (buffers : Buffers) → (read_parts kind.utf8 n None buffers [] None).seen ≡ texts_alone (entries_shown (read_parts kind.utf8 n None buffers [] None).seen)
unfolding read_parts
texts_seen n buffers = refl

-- there is a code for each slot
pub codes_slots : (s codes : Seen) (i : ℕ) → codes ≡ codes_of s → s ≡ encoded (codes_of s) (dictionary_of s) → i < length s.items → i < length codes.items
codes_slots s codes i is named within =
    let slots : length s.items ≡ length s.codes = ap (λ (q : Seen). length q.items) named ∙ length-map s.codes (looked_up s.entries.items) in
    subst (λ (q : Seen). i < length q.items) (sym is) (subst (λ m. i < m) slots within)

-- ---- the kind of a view, by its type

pub dict_kind : (v : Inside) (s : Seen) → show_view v ≡ s → v.ty ≡ type.Dict → s.kind ≡ kind.dict
dict_kind v s shows is = sym (kind_shown v s shows) ∙ ap view_kind is

plain_type : (ty : ViewType) → (ty ≡ type.Dict → ⊥) → same_kind (view_kind ty) kind.dict ≡ false
plain_type (type.Int t) h = refl
plain_type type.Bool h = refl
plain_type (type.Text w) h = refl
plain_type (type.List w item) h = refl
plain_type type.Dict h = absurd (h refl)

pub plain_kind : (v : Inside) (s : Seen) → show_view v ≡ s → (v.ty ≡ type.Dict → ⊥) → same_kind s.kind kind.dict ≡ false
plain_kind v s shows h = subst (λ k. same_kind k kind.dict ≡ false) (kind_shown v s shows) (plain_type v.ty h)

pub text_kind : (v : Inside) (s : Seen) (w : OffsetWidth) → show_view v ≡ s → v.ty ≡ type.Text w → s.kind ≡ kind.texts w
text_kind v s w shows is = sym (kind_shown v s shows) ∙ ap view_kind is

text_type : (ty : ViewType) → ((w : OffsetWidth) → ty ≡ type.Text w → ⊥) → (ty ≡ type.Dict → ⊥) → is_text (view_kind ty) ≡ false
text_type (type.Int t) h g = refl
text_type type.Bool h g = refl
text_type (type.Text w) h g = absurd (h w refl)
text_type (type.List w item) h g = refl
text_type type.Dict h g = absurd (g refl)

-- a view of texts has a type of texts
pub some_text : (v : Inside) (s : Seen) → show_view v ≡ s → ((w : OffsetWidth) → v.ty ≡ type.Text w → ⊥) → (v.ty ≡ type.Dict → ⊥) → is_text s.kind ≡ true → ⊥
some_text v s shows h g text =
    let no : is_text s.kind ≡ false = sym (ap is_text (kind_shown v s shows)) ∙ text_type v.ty h g in
    false≢true (sym no ∙ text)
