-- Texts that are taken back.
use Rattle.std.proofs.Common.{◌≡◌, ◌∙◌, ℕ, suc, ◌≤◌, List, [], ◌∷◌, length, map, take, Bool, true, false, cond, Option, None, Some, option_map, ap, refl, arith}
use mathlib.Core.List.{IsPrefix}
use Rattle.std.specs.Arc.{arc_value}
use Rattle.std.specs.List.{AllZip, enumerate_from, zip}
use Rattle.std.specs.declared.alloc.Global.{Global}
use Rattle.std.specs.declared.sync.Arc.{Arc}
use Rattle.std.proofs.lemmas.List.{length-map}
use Rattle.std.proofs.lemmas.Option.{same_Some}
use Rattle.arrays.specs.Prelude.{FieldShape, Seen, Table, column, shown, text}
use Rattle.arrays.specs.Kind as kind
use Rattle.pool.specs.Texts.{firsts, texts_of}
use Rattle.table.specs.Prelude.{BeginWithTexts, IsConsistent, batches_of, column_texts, dictionaries_of, dictionary_in, entry_count, is_text_field, rows_of_batches, shortened, texts_in}
use Rattle.table.specs.declared.storage.Storage.{Storage}
use Rattle.pool.proofs.PrefixLemmas.{prefix_length, prefix_take}

abbrev SameCount : Option (Arc Seen Global) → List (List ℕ) → Type 0
SameCount d pool = entry_count d ≡ length pool

count-if : (d : Option (Arc Seen Global)) (b : Bool) (xs : List (List ℕ)) → option_map arc_value d ≡ cond b (Some (shown kind.utf8 (map text (cond b xs [])))) None
    → entry_count d ≡ length (cond b xs [])
count-if None true xs is = absurd cc
count-if None false xs is = refl
count-if (Some w) true xs is = ap (λ (s : Seen). length s.items) (same_Some (arc_value w) (shown kind.utf8 (map text xs)) is) ∙ length-map xs text
count-if (Some w) false xs is = absurd cc

pub counts-all : (t : Table) (es : List (ℕ × FieldShape)) (ds : List (Option (Arc Seen Global))) → map (option_map arc_value) ds ≡ map (dictionary_in t) es
    → AllZip SameCount ds (map (texts_in t) es)
counts-all t [] [] is = tt
counts-all t [] (d ∷ ds) is = absurd cc
counts-all t (e ∷ es) [] is = absurd cc
counts-all t (e ∷ es) (d ∷ ds) is = (count-if d (is_text_field e.1) (firsts (texts_of (column t e.0))) cc, counts-all t es ds cc)

pub within-all : (ds : List (Option (Arc Seen Global))) (olds news : List (List (List ℕ))) → AllZip SameCount ds olds → AllZip IsPrefix olds news
    → AllZip (λ (d : Option (Arc Seen Global)) (pool : List (List ℕ)). entry_count d ≤ length pool) ds news
within-all [] [] [] counts begun = tt
within-all [] [] (n ∷ news) counts begun = absurd begun
within-all [] (o ∷ olds) news counts begun = absurd counts
within-all (d ∷ ds) [] news counts begun = absurd counts
within-all (d ∷ ds) (o ∷ olds) [] counts begun = absurd begun
within-all (d ∷ ds) (o ∷ olds) (n ∷ news) counts begun = (omega (arith, counts.0, prefix_length o n begun.0), within-all ds olds news counts.1 begun.1)

pub shortened-all : (ds : List (Option (Arc Seen Global))) (olds news : List (List (List ℕ))) → AllZip SameCount ds olds → AllZip IsPrefix olds news → map shortened (zip ds news) ≡ olds
shortened-all [] [] [] counts begun = refl
shortened-all [] [] (n ∷ news) counts begun = absurd begun
shortened-all [] (o ∷ olds) news counts begun = absurd counts
shortened-all (d ∷ ds) [] news counts begun = absurd counts
shortened-all (d ∷ ds) (o ∷ olds) [] counts begun = absurd begun
shortened-all (d ∷ ds) (o ∷ olds) (n ∷ news) counts begun =
    ap (λ k. take k n ∷ map shortened (zip ds news)) counts.0 ∙ ap (λ l. l ∷ map shortened (zip ds news)) (prefix_take o n begun.0) ∙ ap (λ l. o ∷ l) (shortened-all ds olds news counts.1 begun.1)

pub length-both : (ds : List (Option (Arc Seen Global))) (olds news : List (List (List ℕ))) → AllZip SameCount ds olds → AllZip IsPrefix olds news → length ds ≡ length news
length-both [] [] [] counts begun = refl
length-both [] [] (n ∷ news) counts begun = absurd begun
length-both [] (o ∷ olds) news counts begun = absurd counts
length-both (d ∷ ds) [] news counts begun = absurd counts
length-both (d ∷ ds) (o ∷ olds) [] counts begun = absurd begun
length-both (d ∷ ds) (o ∷ olds) (n ∷ news) counts begun = ap suc (length-both ds olds news counts.1 begun.1)

module _ (h : Storage) (is : IsConsistent h) (pools : List (List (List ℕ))) (begun : BeginWithTexts h (rows_of_batches (batches_of h)) pools) where
  abbrev texts : List (List (List ℕ))
  texts = column_texts h (rows_of_batches (batches_of h))

  counted-texts : AllZip SameCount h.dictionaries.items texts
  unfolding dictionaries_of
  counted-texts = counts-all (rows_of_batches (batches_of h)) (enumerate_from 0 (arc_value h.schema)) h.dictionaries.items is.lawful.texts

  pub back-count : length h.dictionaries.items ≡ length pools
  back-count = length-both h.dictionaries.items texts pools counted-texts begun

  pub back-within : AllZip (λ (d : Option (Arc Seen Global)) (pool : List (List ℕ)). entry_count d ≤ length pool) h.dictionaries.items pools
  back-within = within-all h.dictionaries.items texts pools counted-texts begun

  pub back-same : map shortened (zip h.dictionaries.items pools) ≡ texts
  back-same = shortened-all h.dictionaries.items texts pools counted-texts begun
