-- The texts of a table with those of a batch.
use Rattle.std.proofs.Common.{◌≡◌, ◌∙◌, ℕ, suc, ◌+◌, List, [], ◌∷◌, ◌++◌, length, map, Bool, true, false, cond, ◌&&◌, None, Some, ap, sym, refl}
use Rattle.std.specs.List.{enumerate_from, zip}
use Rattle.arrays.specs.Prelude.{FieldShape, Item, Kind, Narrow, Seen, Table, Wide, column, first, is_recodable, same_kind, shown, text}
use Rattle.arrays.specs.Kind as kind
use Rattle.pool.specs.Texts.{firsts, is_too_full, texts_of}
use Rattle.std.specs.Bool.{then_some}
use Rattle.table.specs.Prelude.{History, dictionary_for, dictionary_in, full_at, full_cause, full_in, grown, is_past_dictionary, is_text_field, rows, stored_kind, texts_cause, texts_in}
use Rattle.table.specs.declared.refusal.Refusal.TheVariants.{TextsFull}
use Rattle.table.proofs.CodeLemmas.{firsts-twice}
use Rattle.table.proofs.TableLemmas.{column-append, texts_of-append}
use Rattle.table.proofs.SuitLemmas.{AllSuit, Suits}

-- ---- one column

text-kind : (k : Kind) → same_kind (stored_kind k) kind.dict ≡ is_recodable k
text-kind (kind.int t) = refl
text-kind kind.boolean = refl
text-kind (kind.texts Narrow) = refl
text-kind (kind.texts Wide) = refl
text-kind (kind.lists w k) = refl
text-kind kind.dict = refl

text-field : (u : Table) (e : ℕ × FieldShape) (c : Seen) → Suits u e c → is_text_field e.1 ≡ is_recodable c.kind
text-field u e c suits = ap (λ k. same_kind k kind.dict) suits.kind ∙ text-kind c.kind

grown-if : (b : Bool) (xs ys : List (List ℕ)) → cond b (firsts (cond b (firsts xs) [] ++ ys)) (cond b (firsts xs) []) ≡ cond b (firsts (xs ++ ys)) []
grown-if true xs ys = firsts-twice xs ys
grown-if false xs ys = refl

-- the texts with those of the column are those of both tables
grown-one : (t u : Table) (e : ℕ × FieldShape) (c : Seen) → Suits u e c → grown (texts_in t e, c) ≡ texts_in (t ++ u) e
grown-one t u e c suits =
    ap (λ b. cond b (firsts (texts_in t e ++ texts_of c.items)) (texts_in t e)) (sym (text-field u e c suits))
    ∙ grown-if (is_text_field e.1) (texts_of (column t e.0)) (texts_of c.items)
    ∙ ap (λ (l : List Item). cond (is_text_field e.1) (firsts (texts_of (column t e.0) ++ texts_of l)) []) (sym suits.items)
    ∙ ap (λ l. cond (is_text_field e.1) (firsts l) []) (sym (texts_of-append (column t e.0) (column u e.0)))
    ∙ ap (λ (l : List Item). cond (is_text_field e.1) (firsts (texts_of l)) []) (sym (column-append t u e.0))

dictionary-one : (t u : Table) (e : ℕ × FieldShape) (c : Seen) → Suits u e c → dictionary_for (texts_in t e, c) ≡ dictionary_in t e
dictionary-one t u e c suits = ap (λ b. cond b (Some (shown kind.utf8 (map text (texts_in t e)))) None) (sym (text-field u e c suits))

full-if : (b : Bool) (ts xs : List (List ℕ)) → ts ≡ cond b xs [] → (b && is_too_full ts) ≡ (b && is_too_full xs)
full-if true ts xs is = ap is_too_full is
full-if false ts xs is = refl

full-one : (t u : Table) (e : ℕ × FieldShape) (c : Seen) → Suits u e c
    → is_past_dictionary (texts_in t e, c) ≡ (is_text_field e.1 && is_too_full (firsts (texts_of (column (t ++ u) e.0))))
full-one t u e c suits =
    ap (λ b. b && is_too_full (grown (texts_in t e, c))) (sym (text-field u e c suits))
    ∙ full-if (is_text_field e.1) (grown (texts_in t e, c)) (firsts (texts_of (column (t ++ u) e.0))) (grown-one t u e c suits)

-- ---- all columns

pub count-all : (t u : Table) (es : List (ℕ × FieldShape)) (columns : List Seen) → AllSuit u es columns → length (map (texts_in t) es) ≡ length columns
count-all t u [] [] all = refl
count-all t u [] (c ∷ columns) all = absurd all
count-all t u (e ∷ es) [] all = absurd all
count-all t u (e ∷ es) (c ∷ columns) all = ap suc (count-all t u es columns all.1)

pub grown-all : (t u : Table) (es : List (ℕ × FieldShape)) (columns : List Seen) → AllSuit u es columns → map grown (zip (map (texts_in t) es) columns) ≡ map (texts_in (t ++ u)) es
grown-all t u [] [] all = refl
grown-all t u [] (c ∷ columns) all = absurd all
grown-all t u (e ∷ es) [] all = absurd all
grown-all t u (e ∷ es) (c ∷ columns) all =
    ap (λ l. l ∷ map grown (zip (map (texts_in t) es) columns)) (grown-one t u e c all.0) ∙ ap (λ l. texts_in (t ++ u) e ∷ l) (grown-all t u es columns all.1)

pub dictionary-all : (t u : Table) (es : List (ℕ × FieldShape)) (columns : List Seen) → AllSuit u es columns → map dictionary_for (zip (map (texts_in t) es) columns) ≡ map (dictionary_in t) es
dictionary-all t u [] [] all = refl
dictionary-all t u [] (c ∷ columns) all = absurd all
dictionary-all t u (e ∷ es) [] all = absurd all
dictionary-all t u (e ∷ es) (c ∷ columns) all =
    ap (λ d. d ∷ map dictionary_for (zip (map (texts_in t) es) columns)) (dictionary-one t u e c all.0) ∙ ap (λ l. dictionary_in t e ∷ l) (dictionary-all t u es columns all.1)

full-all : (h : History) (u : Table) (n : ℕ) (fields : List FieldShape) (columns : List Seen) → AllSuit u (enumerate_from n fields) columns
    → map full_at (enumerate_from n (zip (map (texts_in (rows h)) (enumerate_from n fields)) columns)) ≡ map (full_in h u) (enumerate_from n fields)
full-all h u n [] [] all = refl
full-all h u n [] (c ∷ columns) all = absurd all
full-all h u n (f ∷ fields) [] all = absurd all
full-all h u n (f ∷ fields) (c ∷ columns) all =
    ap (λ b. then_some b (TextsFull n) ∷ map full_at (enumerate_from (n + 1) (zip (map (texts_in (rows h)) (enumerate_from (n + 1) fields)) columns))) (full-one (rows h) u (n, f) c all.0)
    ∙ ap (λ l. full_in h u (n, f) ∷ l) (full-all h u (n + 1) fields columns all.1)

pub full-cause : (h : History) (u : Table) (fields : List FieldShape) (columns : List Seen) → AllSuit u (enumerate_from 0 fields) columns
    → full_cause (map (texts_in (rows h)) (enumerate_from 0 fields)) columns ≡ texts_cause fields h u
unfolding full_cause texts_cause
full-cause h u fields columns all = ap first (full-all h u 0 fields columns all)
