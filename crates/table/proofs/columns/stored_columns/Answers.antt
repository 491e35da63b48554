use Rattle.std.proofs.Common.{◌∙◌, inl, inr, ℕ, ◌+◌, ◌++◌, ◌∷◌, List, [], Option, ap, arith, length, map, option_map, set, subst, sym}
use Rattle.std.specs.Arc.{arc_value}
use Rattle.std.specs.List.{zip}
use Rattle.std.proofs.lemmas.List.{length-map, map_push}
use Rattle.std.proofs.lemmas.Slice.Zip.{length-zip}
use Rattle.arrays.specs.Prelude.{Seen}
use Rattle.table.specs.Recoded.{dictionary_for}
use Rattle.table.proofs.RecodedLemmas.{AreStored, AreStored-more, AreStored-none, begun-all, beside, columns-stored, dictionaries-stored, full-here, none-full, pools-begun, pools-stored, stored-within}
use Rattle.table.proofs.columns.stored_columns.Goals as goal

pub returns-in_err-with_capacity-clause-begun : goal.returns-in_err-with_capacity-clause-begun
returns-in_err-with_capacity-clause-begun c = begun-all c.args.pools.now.items

pub returns-in_err-with_capacity-2-clause-begun : goal.returns-in_err-with_capacity-2-clause-begun
returns-in_err-with_capacity-2-clause-begun c = begun-all c.args.pools.now.items

pub loop-k-init : goal.loop-k-init
loop-k-init c =
    let olds = c.args.pools.now.items in
    let columns = c.args.columns.now in
    subst (λ (l : List Seen). AreStored olds columns 0 olds l (map (option_map arc_value) c.in_ok-with_capacity-2.field-0.items)) (sym c.in_ok-with_capacity.ensures.items)
    (subst (λ (l : List (Option Seen)). AreStored olds columns 0 olds [] l) (sym (ap (map (option_map arc_value)) c.in_ok-with_capacity-2.ensures.items))
    (AreStored-none olds columns))

pub index_mut-requires : goal.index_mut-requires
index_mut-requires c =
    omega (arith, c.loop-k.pools.ok.0, stored-within c.args.pools.now.items c.args.columns.now c.requires.count c.loop-k.k c.loop-k-test.true c.loop-k.pools.items c.loop-k.stored.columns.items (map (option_map arc_value) c.loop-k.stored.dictionaries.items) c.loop-k.invariant)

pub bounds-dictionaries-k : goal.bounds-dictionaries-k
bounds-dictionaries-k c =
    let olds = c.args.pools.now.items in
    let columns = c.args.columns.now in
    let ds = c.args.dictionaries.now in
    omega (arith, c.loop-k-test.true, c.requires.count, length-zip olds columns, length-map ds (option_map arc_value), length-map (zip olds columns) dictionary_for, ap (λ (l : List (Option Seen)). length l) c.requires.dictionaries)

pub stored_column-requires : goal.stored_column-requires
stored_column-requires c =
    beside c.args.pools.now.items c.args.columns.now c.requires.count c.loop-k.k c.loop-k-test.true c.loop-k.pools.items c.loop-k.stored.columns.items (map (option_map arc_value) c.loop-k.stored.dictionaries.items) c.loop-k.invariant
    c.index_mut.result.now c.index-columns-k.result c.index_mut.ensures.value c.index-columns-k.is
    (option_map arc_value) dictionary_for c.args.dictionaries.now c.index-dictionaries-k.result c.requires.dictionaries c.index-dictionaries-k.is

pub returns-in-Err-TextsFull-clause-err : goal.returns-in-Err-TextsFull-clause-err
returns-in-Err-TextsFull-clause-err c =
    elim c.in-Err-TextsFull.ensures.err [
      | inl h ↦ inr (full-here c.args.pools.now.items c.args.columns.now c.requires.count c.loop-k.k c.loop-k-test.true c.loop-k.pools.items c.loop-k.stored.columns.items (map (option_map arc_value) c.loop-k.stored.dictionaries.items) c.loop-k.invariant
          c.index_mut.result.now c.index-columns-k.result c.index_mut.ensures.value c.index-columns-k.is h.1)
      | inr h ↦ absurd (cc (h, c.in-Err-TextsFull.field-0-is))
    ]

pub returns-in-Err-TextsFull-clause-begun : goal.returns-in-Err-TextsFull-clause-begun
returns-in-Err-TextsFull-clause-begun c =
    pools-begun c.args.pools.now.items c.args.columns.now c.requires.count c.loop-k.k c.loop-k-test.true c.loop-k.pools.items c.loop-k.stored.columns.items (map (option_map arc_value) c.loop-k.stored.dictionaries.items) c.loop-k.invariant
    c.index_mut.result.now c.index-columns-k.result c.index_mut.ensures.value c.index-columns-k.is
    c.stored_column.new.pool c.in-Err-TextsFull.ensures.begun

pub returns-in-Err-NoMemory-clause-begun : goal.returns-in-Err-NoMemory-clause-begun
returns-in-Err-NoMemory-clause-begun c =
    pools-begun c.args.pools.now.items c.args.columns.now c.requires.count c.loop-k.k c.loop-k-test.true c.loop-k.pools.items c.loop-k.stored.columns.items (map (option_map arc_value) c.loop-k.stored.dictionaries.items) c.loop-k.invariant
    c.index_mut.result.now c.index-columns-k.result c.index_mut.ensures.value c.index-columns-k.is
    c.stored_column.new.pool c.in-Err-NoMemory.ensures.begun

pub returns-in_err-push-clause-begun : goal.returns-in_err-push-clause-begun
returns-in_err-push-clause-begun c =
    pools-begun c.args.pools.now.items c.args.columns.now c.requires.count c.loop-k.k c.loop-k-test.true c.loop-k.pools.items c.loop-k.stored.columns.items (map (option_map arc_value) c.loop-k.stored.dictionaries.items) c.loop-k.invariant
    c.index_mut.result.now c.index-columns-k.result c.index_mut.ensures.value c.index-columns-k.is
    c.stored_column.new.pool c.in-Ok.ensures.begun

pub returns-in_err-push-2-clause-begun : goal.returns-in_err-push-2-clause-begun
returns-in_err-push-2-clause-begun c =
    pools-begun c.args.pools.now.items c.args.columns.now c.requires.count c.loop-k.k c.loop-k-test.true c.loop-k.pools.items c.loop-k.stored.columns.items (map (option_map arc_value) c.loop-k.stored.dictionaries.items) c.loop-k.invariant
    c.index_mut.result.now c.index-columns-k.result c.index_mut.ensures.value c.index-columns-k.is
    c.stored_column.new.pool c.in-Ok.ensures.begun

pub loop-k-preserved : goal.loop-k-preserved
loop-k-preserved c =
    let olds = c.args.pools.now.items in
    let columns = c.args.columns.now in
    let k = c.loop-k.k in
    let next = c.stored_column.new.pool in
    let before = c.loop-k.stored.columns.items in
    let named = map (option_map arc_value) c.loop-k.stored.dictionaries.items in
    let column = c.in-Ok.stored.0 in
    let dictionary = option_map arc_value c.in-Ok.stored.1 in
    let pools : List (List (List ℕ)) = set c.loop-k.pools.items k next in
    let are =
    AreStored-more olds columns c.requires.count k c.loop-k-test.true c.loop-k.pools.items before named c.loop-k.invariant
    c.index_mut.result.now c.index-columns-k.result c.index_mut.ensures.value c.index-columns-k.is
    next column dictionary c.in-Ok.ensures.column c.in-Ok.ensures.dictionary c.in-Ok.ensures.pool c.in-Ok.ensures.fits c.in-Ok.ensures.begun in
    subst (λ (l : List Seen). AreStored olds columns (k + 1) pools l (map (option_map arc_value) c.push-in-loop-k.new.self.items)) (sym c.in_ok-push.ensures.items)
    (subst (λ (l : List (Option Seen)). AreStored olds columns (k + 1) pools (before ++ column ∷ []) l)
    (sym (ap (map (option_map arc_value)) c.in_ok-push-2.ensures.items ∙ map_push (option_map arc_value) c.loop-k.stored.dictionaries.items c.in-Ok.stored.1)) are)

pub returns-clause-columns : goal.returns-clause-columns
returns-clause-columns c = columns-stored c.args.pools.now.items c.args.columns.now c.requires.count c.loop-k.k c.loop-k-test.false c.loop-k.pools.items c.loop-k.stored.columns.items (map (option_map arc_value) c.loop-k.stored.dictionaries.items) c.loop-k.invariant

pub returns-clause-dictionaries : goal.returns-clause-dictionaries
returns-clause-dictionaries c = dictionaries-stored c.args.pools.now.items c.args.columns.now c.requires.count c.loop-k.k c.loop-k-test.false c.loop-k.pools.items c.loop-k.stored.columns.items (map (option_map arc_value) c.loop-k.stored.dictionaries.items) c.loop-k.invariant

pub returns-clause-pools : goal.returns-clause-pools
returns-clause-pools c = pools-stored c.args.pools.now.items c.args.columns.now c.requires.count c.loop-k.k c.loop-k-test.false c.loop-k.pools.items c.loop-k.stored.columns.items (map (option_map arc_value) c.loop-k.stored.dictionaries.items) c.loop-k.invariant

pub returns-clause-fits : goal.returns-clause-fits
returns-clause-fits c = none-full c.args.pools.now.items c.args.columns.now c.requires.count c.loop-k.k c.loop-k-test.false c.loop-k.pools.items c.loop-k.stored.columns.items (map (option_map arc_value) c.loop-k.stored.dictionaries.items) c.loop-k.invariant
