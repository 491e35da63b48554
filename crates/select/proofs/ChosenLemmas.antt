-- What arrays of chosen rows show.
use Rattle.std.proofs.Common.{◌≡◌, ◌∙◌, ℕ, ◌<◌, List, [], ◌∷◌, length, map, true, Option, None, Some, Result, Ok, Err, IfOk, ap, sym, refl, arith, get_or}
use Rattle.std.specs.Prelude.{All}
use Rattle.std.proofs.lemmas.List.{length-map}
use Rattle.arrays.specs.Prelude.{Entries, Item, Kind, OffsetWidth, Seen, codes_of, dictionary_of, encoded, entries_shown, int32, is_code, item_kind, looked_up, null, same_kind, shown, validity_of}
use Rattle.arrays.specs.Kind as kind
use Rattle.select.specs.declared.fault.SelectFault.{SelectFault}
use Rattle.select.specs.Prelude.{IsPick, chosen, kept, picked, picked_at}
use Rattle.select.proofs.ListLemmas.{get_or-map-any}

pub kind-chosen : (k : Kind) (f : List Item → List Item) (s : Seen) → (chosen k f s).kind ≡ k
kind-chosen (kind.int t) f s = refl
kind-chosen kind.boolean f s = refl
kind-chosen (kind.texts w) f s = refl
kind-chosen (kind.lists w k) f s = refl
kind-chosen kind.dict f s = refl

pub items-chosen : (k : Kind) (f : List Item → List Item) (s : Seen) → (chosen k f s).items ≡ f s.items
items-chosen (kind.int t) f s = refl
items-chosen kind.boolean f s = refl
items-chosen (kind.texts w) f s = refl
items-chosen (kind.lists w k) f s = refl
items-chosen kind.dict f s = refl

-- the same rows, chosen in two ways
pub chosen-same : (k : Kind) (f g : List Item → List Item) (s : Seen) → f s.items ≡ g s.items → (same_kind k kind.dict ≡ true → f s.codes ≡ g s.codes) → chosen k f s ≡ chosen k g s
chosen-same (kind.int t) f g s items codes = ap (shown (kind.int t)) items
chosen-same kind.boolean f g s items codes = ap (shown kind.boolean) items
chosen-same (kind.texts w) f g s items codes = ap (shown (kind.texts w)) items
chosen-same (kind.lists w k) f g s items codes = ap (shown (kind.lists w k)) items
chosen-same kind.dict f g s items codes =
    ap (coded_as s.entries (f s.codes)) items ∙ ap (λ (c : List Item). coded_as s.entries c (g s.items)) (codes refl)
  where
    coded_as : Entries → List Item → List Item → Seen
    coded_as entries codes items = record { kind = kind.dict; validity = validity_of codes; items = items; codes = codes; entries = entries }

-- ---- codes of a dictionary

looked-picked : (entries codes : List Item) (pick : Option ℕ) → looked_up entries (picked_at codes pick) ≡ picked_at (map (looked_up entries) codes) pick
looked-picked entries codes None = refl
looked-picked entries codes (Some i) = sym (Rattle.std.proofs.Math.ListN.get_or-map (looked_up entries) codes i null)

-- looking picked codes up is picking what was looked up
pub looked_up-picked : (entries codes : List Item) (picks : List (Option ℕ)) → map (looked_up entries) (picked codes picks) ≡ picked (map (looked_up entries) codes) picks
looked_up-picked entries codes [] = refl
looked_up-picked entries codes (pick ∷ picks) =
    ap (λ x. x ∷ map (looked_up entries) (picked codes picks)) (looked-picked entries codes pick) ∙ ap (λ l. picked_at (map (looked_up entries) codes) pick ∷ l) (looked_up-picked entries codes picks)

-- the rows of a dictionary-encoded column, by its codes
pub encoded-picked : (s d codes : Seen) (picks : List (Option ℕ)) → s ≡ encoded (codes_of s) (dictionary_of s) → entries_shown d ≡ s.entries
    → codes ≡ shown (kind.int int32) (picked s.codes picks) → encoded codes d ≡ chosen kind.dict (λ items. picked items picks) s
encoded-picked s d codes picks is shows codes_are =
    let items : s.items ≡ map (looked_up s.entries.items) s.codes = ap (λ (q : Seen). q.items) is in
    ap (λ c. encoded c d) codes_are
    ∙ ap (λ e. whole e (picked s.codes picks)) shows
    ∙ ap (λ xs. made s.entries (picked s.codes picks) xs) (looked_up-picked s.entries.items s.codes picks ∙ ap (λ xs. picked xs picks) (sym items))
  where
    made : Entries → List Item → List Item → Seen
    made entries codes items = record { kind = kind.dict; validity = validity_of codes; items = items; codes = codes; entries = entries }

    whole : Entries → List Item → Seen
    whole entries codes = made entries codes (map (looked_up entries.items) codes)

pub length-codes : (s : Seen) → s ≡ encoded (codes_of s) (dictionary_of s) → length s.codes ≡ length s.items
length-codes s is = sym (ap (λ (q : Seen). length q.items) is ∙ length-map s.codes (looked_up s.entries.items))

-- picked codes are codes
pub codes-picked : (n : ℕ) (codes : List Item) (picks : List (Option ℕ)) → All (λ c. is_code n c ≡ true) codes → All (IsPick (length codes)) picks
    → All (λ c. is_code n c ≡ true) (picked codes picks)
codes-picked n codes picks all within k d below =
    let few : k < length picks = omega (arith, below, length-map picks (picked_at codes)) in
    ap (is_code n) (get_or-map-any (picked_at codes) picks k d None few) ∙ one (get_or picks k None) (within k None few)
  where
    one : (pick : Option ℕ) → IsPick (length codes) pick → is_code n (picked_at codes pick) ≡ true
    one None h = refl
    one (Some i) h = all i null h

pub item-is : (k l : Kind) → Some k ≡ Some l → k ≡ l
item-is k l h = cc

-- a list's kind, by the width of its offsets and its items
pub list-kind : (w : OffsetWidth) (k j l : Kind) → kind.lists w j ≡ k → item_kind k ≡ Some l → k ≡ kind.lists w l
list-kind w k j l is item = sym is ∙ ap (kind.lists w) (item-is j l (ap item_kind is ∙ item))

-- rows picked by a mask are those that it keeps
pub chosen-kept : (s mask : Seen) (picks : List (Option ℕ)) (r : Result Seen SelectFault) → length mask.items ≡ length s.items
    → ((items : List Item) → length items ≡ length mask.items → picked items picks ≡ kept items mask.items)
    → IfOk r (λ a. a ≡ chosen s.kind (λ items. picked items picks) s) → IfOk r (λ a. same_kind s.kind kind.dict ≡ true → length s.codes ≡ length s.items)
    → IfOk r (λ a. a ≡ chosen s.kind (λ items. kept items mask.items) s)
chosen-kept s mask picks (Err e) same rows is codes = tt
chosen-kept s mask picks (Ok a) same rows is codes =
    is ∙ chosen-same s.kind (λ items. picked items picks) (λ items. kept items mask.items) s (rows s.items (sym same)) (λ d. rows s.codes (codes d ∙ sym same))
