-- The codes of a dictionary-encoded column read back as its texts.
use Rattle.std.proofs.Common.{◌≡◌, ◌∙◌, ℕ, zero, suc, ◌<◌, ◌^◌, pos, List, [], ◌∷◌, ◌++◌, length, true, Some, option_map, option_and_then, position, get_or, refl, sym, ap, subst, arith}
use Rattle.std.specs.Prelude.{slice_get, unwrap_or, ⊤}
use Rattle.std.specs.List.{AllByRecursion, position_or_len}
use Rattle.std.specs.Str.{bytes_eq}
use Rattle.std.proofs.lemmas.List.Elements.{filter_map-append}
use Rattle.std.proofs.lemmas.List.Folds.{list_any-append}
use Rattle.std.proofs.lemmas.List.Quantifiers.{position-Some}
use Rattle.std.proofs.lemmas.Option.{slice_get-get_or, slice_get-map}
use Rattle.std.proofs.lemmas.Slice.Eq.{bytes_eq-Decides}
use Rattle.std.proofs.lemmas.Cmp.{nat_list_eq_equiv}
use Rattle.std.proofs.lemmas.Bool.{or_right, or_left}
use Rattle.arrays.specs.Item as column
use Rattle.arrays.specs.Prelude.{IsItemOf, Item, int32}
use Rattle.arrays.specs.Kind as kind
use Rattle.pool.specs.Texts.{firsts, is_among, text_of, texts_of}
use Rattle.pool.proofs.PlaceLemmas.{among_place, position_found}
use Rattle.pool.proofs.TextLemmas.{is_among-firsts}
use Rattle.json_base.specs.JsonTable.{Table}
use Rattle.json_read.specs.JsonCodes.{ReadsCodes, entry_at, indices}
use Rattle.json_print.specs.Prelude.{code_data, code_in, column_at, column_items, plain_column, text_items}
use Rattle.json_laws.proofs.ReadNumbers.{index_read}
use Rattle.json_laws.proofs.ReadSlots.{IsSpelled, plain_read}

-- ---- each text is in the dictionary

-- A text is among these.
abbrev pub IsAmong : List (List ℕ) → Item → Type 0
IsAmong texts (column.text bytes) = is_among texts bytes ≡ true
IsAmong texts x = ⊤

among_behind : (ts us : List (List ℕ)) (x : Item) → IsAmong us x → IsAmong (ts ++ us) x
among_behind ts us column.null h = tt
among_behind ts us (column.int z) h = tt
among_behind ts us (column.boolean b) h = tt
among_behind ts us (column.text bytes) h = list_any-append (bytes_eq bytes) ts us ∙ or_right (is_among ts bytes) (is_among us bytes) h
among_behind ts us (column.list l) h = tt

among_before : (ts us : List (List ℕ)) (x : Item) → IsAmong ts x → IsAmong (ts ++ us) x
among_before ts us column.null h = tt
among_before ts us (column.int z) h = tt
among_before ts us (column.boolean b) h = tt
among_before ts us (column.text bytes) h = list_any-append (bytes_eq bytes) ts us ∙ or_left (is_among ts bytes) (is_among us bytes) h
among_before ts us (column.list l) h = tt

among_firsts : (ts : List (List ℕ)) (x : Item) → IsAmong ts x → IsAmong (firsts ts) x
among_firsts ts column.null h = tt
among_firsts ts (column.int z) h = tt
among_firsts ts (column.boolean b) h = tt
among_firsts ts (column.text bytes) h = is_among-firsts ts bytes ∙ h
among_firsts ts (column.list l) h = tt

weaker : {X : Type 0} (P Q : X → Type 0) → ((x : X) → P x → Q x) → (xs : List X) → AllByRecursion P xs → AllByRecursion Q xs
weaker P Q w [] h = tt
weaker P Q w (x ∷ xs) h = (w x h.0, weaker P Q w xs h.1)

own_texts : (items : List Item) → AllByRecursion (IsAmong (texts_of items)) items
own_texts [] = tt
own_texts (column.null ∷ xs) = (tt, own_texts xs)
own_texts (column.int z ∷ xs) = (tt, own_texts xs)
own_texts (column.boolean b ∷ xs) = (tt, own_texts xs)
own_texts (column.text bytes ∷ xs) = (
  or_left (bytes_eq bytes bytes) (is_among (texts_of xs) bytes) (nat_list_eq_equiv.refl bytes),
  weaker (IsAmong (texts_of xs)) (IsAmong (bytes ∷ texts_of xs)) (among_behind (bytes ∷ []) (texts_of xs)) xs (own_texts xs),
)
own_texts (column.list l ∷ xs) = (tt, own_texts xs)

-- The texts of one table are among those of all.
table_texts : (place : ℕ) (tables : List Table) (k : ℕ) (t : Table) → slice_get tables k ≡ Some t → AllByRecursion (IsAmong (texts_of (column_items place tables))) (column_at place t)
table_texts place [] k t at = absurd cc
table_texts place (u ∷ tables) zero t at =
    let same : u ≡ t = cc in
    let here = column_at place u in
    let rest = column_items place tables in
    subst (λ (v : Table). AllByRecursion (IsAmong (texts_of (here ++ rest))) (column_at place v)) same
    (subst (λ ts. AllByRecursion (IsAmong ts) here) (sym (filter_map-append text_of here rest))
    (weaker (IsAmong (texts_of here)) (IsAmong (texts_of here ++ texts_of rest)) (among_before (texts_of here) (texts_of rest)) here (own_texts here)))
table_texts place (u ∷ tables) (suc k) t at =
    let here = column_at place u in
    let rest = column_items place tables in
    subst (λ ts. AllByRecursion (IsAmong ts) (column_at place t)) (sym (filter_map-append text_of here rest))
    (weaker (IsAmong (texts_of rest)) (IsAmong (texts_of here ++ texts_of rest)) (among_behind (texts_of here) (texts_of rest)) (column_at place t) (table_texts place tables k t at))

pub texts_among : (place : ℕ) (tables : List Table) (k : ℕ) (t : Table) → slice_get tables k ≡ Some t
    → AllByRecursion (IsAmong (firsts (texts_of (column_items place tables)))) (column_at place t)
texts_among place tables k t at =
    let all = texts_of (column_items place tables) in
    weaker (IsAmong all) (IsAmong (firsts all)) (among_firsts all) (column_at place t) (table_texts place tables k t at)

-- ---- a code names its text

named : (bytes : List ℕ) (texts : List (List ℕ)) (place : ℕ) → position (bytes_eq bytes) texts ≡ Some place → slice_get (text_items texts) place ≡ Some (column.text bytes)
named bytes texts place found =
    let h = position-Some (bytes_eq bytes) texts place [] found in
    let same : bytes ≡ get_or texts place [] = (bytes_eq-Decides bytes (get_or texts place [])).0 h.1 in
    slice_get-map column.text texts place ∙ ap (option_map column.text) (slice_get-get_or texts place [] h.0 ∙ ap (λ t. Some t) (sym same))

code_spelled : (texts : List (List ℕ)) → length texts < 2 ^ 31 → (x : Item) → IsItemOf kind.dict x → IsAmong texts x → IsSpelled (indices int32 (text_items texts)) (code_data (code_in texts)) x
code_spelled texts few column.null h among = λ some. absurd cc
code_spelled texts few (column.int z) h among = absurd h
code_spelled texts few (column.boolean b) h among = absurd h
code_spelled texts few (column.text bytes) h among =
    λ some.
    let place = position_or_len (bytes_eq bytes) texts in
    let found = among_place (bytes_eq bytes) texts among in
    let code : code_in texts bytes ≡ place = ap (λ o. unwrap_or o 0) found in
    let within = (position_found (bytes_eq bytes) texts place found).1 in
    ap (option_and_then (entry_at (text_items texts))) (index_read (code_in texts bytes) (omega (arith, code, within, few)) ∙ ap (λ n. Some (pos n)) code)
    ∙ named bytes texts place found
code_spelled texts few (column.list l) h among = absurd h

codes_spelled : (texts : List (List ℕ)) → length texts < 2 ^ 31 → (items : List Item) → AllByRecursion (IsItemOf kind.dict) items → AllByRecursion (IsAmong texts) items
    → AllByRecursion (IsSpelled (indices int32 (text_items texts)) (code_data (code_in texts))) items
codes_spelled texts few [] h among = tt
codes_spelled texts few (x ∷ xs) h among = (code_spelled texts few x h.0 among.0, codes_spelled texts few xs h.1 among.1)

pub codes_read : (texts : List (List ℕ)) (name : List ℕ) (items : List Item) → length texts < 2 ^ 31 → length items < 2 ^ 31 → AllByRecursion (IsItemOf kind.dict) items
    → AllByRecursion (IsAmong texts) items → ReadsCodes int32 (text_items texts) (length items) (plain_column (code_data (code_in texts)) name items) items
codes_read texts name items short few typed among =
    plain_read (indices int32 (text_items texts)) (code_data (code_in texts)) name items few (codes_spelled texts short items typed among) refl
