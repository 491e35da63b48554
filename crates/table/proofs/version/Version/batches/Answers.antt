use Rattle.std.proofs.Common.{◌≡◌, ◌∙◌, ◌≤◌, ◌^◌, ℕ, All, List, Option, ap, arith, length, map, subst, sym}
use Rattle.std.proofs.lemmas.List.{length-map}
use Rattle.std.proofs.lemmas.Simd.{map-map}
use Rattle.std.specs.List.{AllZip}
use Rattle.std.specs.Arc.{arc_value}
use Rattle.std.specs.declared.alloc.Global.{Global}
use Rattle.std.specs.declared.sync.Arc.{Arc}
use Rattle.arrays.specs.Prelude.{Batch, FieldShape, Seen, rows_of}
use Rattle.table.specs.Prelude.{Contents, EndsWithEntry, IsStored, NamesFronts, batches_of, book, book_of, dictionaries_in, dictionaries_of, rows, rows_of_batches}
use Rattle.compaction.specs.Under.{NamesFront}
use Rattle.table.proofs.StorageLemmas.{all-of-map, book-shown, count-shown, rows-shown}
use Rattle.table.proofs.version.Version.batches.Goals as goal

abbrev Shared : Type 0
Shared = Arc Batch Global

pub returns-clause-value : goal.returns-clause-value
returns-clause-value c =
    ap (map (λ (b : Arc Batch Global). rows_of (arc_value b))) c.deref.ensures.value
    ∙ sym (map-map rows_of (λ (b : Arc Batch Global). arc_value b) c.storage.result.now.batches.items)
    ∙ ap (λ (s : Contents). s.batches) c.storage.ensures.shown

pub returns-clause-lawful : goal.returns-clause-lawful
returns-clause-lawful c =
    let storage = c.storage.result.now in
    subst (λ (l : List (Arc Batch Global)). Rattle.std.proofs.Common.All (λ b. IsStored c.args.self.now.fields (arc_value b)) l) (sym c.deref.ensures.value)
    (subst (λ (f : List FieldShape). Rattle.std.proofs.Common.All (λ (b : Arc Batch Global). IsStored f (arc_value b)) storage.batches.items) (ap (λ (s : Contents). s.fields) c.storage.ensures.shown)
    (all-of-map (IsStored (arc_value storage.schema)) (λ (b : Arc Batch Global). arc_value b) storage.batches.items c.storage.ensures.lawful.lawful.stored))

pub returns-clause-rows : goal.returns-clause-rows
returns-clause-rows c =
    ap (λ (l : List Shared). rows_of_batches (map (λ (b : Shared). arc_value b) l)) c.deref.ensures.value
    ∙ sym (rows-shown c.storage.result.now c.storage.ensures.lawful)
    ∙ ap (λ (s : Contents). rows s.history) c.storage.ensures.shown

pub returns-clause-few : goal.returns-clause-few
returns-clause-few c =
    let storage = c.storage.result.now in
    let count = count-shown storage c.storage.ensures.lawful ∙ ap (λ (s : Contents). length (rows s.history)) c.storage.ensures.shown in
    subst (λ n. n ≤ 2 ^ 40) (sym c.storage.ensures.lawful.rows ∙ count) c.storage.ensures.lawful.lawful.few

pub returns-clause-ends : goal.returns-clause-ends
returns-clause-ends c i within =
    let storage = c.storage.result.now in
    let same : book_of storage ≡ book c.args.self.now.history = sym (book-shown storage c.storage.ensures.lawful) ∙ ap (λ (s : Contents). book s.history) c.storage.ensures.shown in
    let below : i ≤ length (batches_of storage) = omega (arith, within, ap (λ (l : List Shared). length l) c.deref.ensures.value, length-map storage.batches.items (λ (b : Shared). arc_value b)) in
    subst (λ (b : List (ℕ × ℕ)). EndsWithEntry (map (λ (b : Shared). arc_value b) c.deref.result.now) b i) same
    (subst (λ (l : List Shared). EndsWithEntry (map (λ (b : Shared). arc_value b) l) (book_of storage) i) (sym c.deref.ensures.value)
    (c.storage.ensures.lawful.lawful.ends i below))

pub returns-clause-fronts : goal.returns-clause-fronts
returns-clause-fronts c =
    let storage = c.storage.result.now in
    let same : dictionaries_in storage ≡ dictionaries_of c.args.self.now.fields (rows c.args.self.now.history) =
    c.storage.ensures.lawful.lawful.texts
    ∙ ap (dictionaries_of (arc_value storage.schema)) (sym (rows-shown storage c.storage.ensures.lawful))
    ∙ ap (λ (s : Contents). dictionaries_of s.fields (rows s.history)) c.storage.ensures.shown in
    subst (λ (l : List Shared). All (λ b. NamesFronts c.args.self.now.fields (rows c.args.self.now.history) (arc_value b)) l) (sym c.deref.ensures.value)
    (subst (λ (ds : List (Option Seen)). All (λ (b : Shared). AllZip NamesFront (arc_value b).columns ds) storage.batches.items) same
    (all-of-map (λ (b : Batch). AllZip NamesFront b.columns (dictionaries_in storage)) (λ (b : Shared). arc_value b) storage.batches.items c.storage.ensures.lawful.lawful.fronts))
