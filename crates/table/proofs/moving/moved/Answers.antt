use Rattle.std.proofs.Common.{List, All, ap, arith, length, map, option_map, subst, sym}
use Rattle.std.specs.Arc.{arc_value}
use Rattle.std.specs.declared.alloc.Global.{Global}
use Rattle.std.specs.declared.sync.Arc.{Arc}
use Rattle.arrays.specs.Batch.{Batch}
use Rattle.compaction.specs.Under.{IsUnder}
use Rattle.table.specs.Prelude.{AreMoved, batches_of}
use Rattle.table.proofs.MovedLemmas.{moved-last, moved-none, under-last}
use Rattle.table.proofs.moving.moved.Goals as goal

pub all_over-requires-clause-under : goal.all_over-requires-clause-under
all_over-requires-clause-under c =
    let fields = arc_value c.args.storage.now.schema in
    let words = map (option_map arc_value) c.args.dictionaries.now in
    under-last fields words c.first_moved-first.result c.deref.result.now
    (subst (λ (l : List (Arc Batch Global)). All (IsUnder fields words) (map arc_value l)) (sym c.deref.ensures.value) c.requires.under)

pub returns-in_ok-all_over-in-len1-up : goal.returns-in_ok-all_over-in-len1-up
returns-in_ok-all_over-in-len1-up c =
    let fields = arc_value c.args.storage.now.schema in
    let words = map (option_map arc_value) c.args.dictionaries.now in
    let moved = map arc_value c.in_ok-all_over-in-len1-up.field-0.items in
    subst (λ (l : List (Arc Batch Global)). AreMoved fields words (map arc_value l) moved) c.deref.ensures.value
    (moved-last fields words c.first_moved-first.result c.deref.result.now moved
    (omega (arith, c.first_moved-first.ensures, c.len.ensures, ap (λ (l : List (Arc Batch Global)). length l) c.deref.ensures.value))
    (subst (λ (l : List (Arc Batch Global)). All (IsUnder fields words) (map arc_value l)) (sym c.deref.ensures.value) c.requires.under)
    c.in_ok-all_over-in-len1-up.ensures)

pub returns-in_default : goal.returns-in_default
returns-in_default c =
    let fields = arc_value c.args.storage.now.schema in
    let words = map (option_map arc_value) c.args.dictionaries.now in
    subst (λ (l : List (Arc Batch Global)). AreMoved fields words (batches_of c.args.storage.now) (map arc_value l)) (sym c.new.ensures.items)
    (moved-none fields words (batches_of c.args.storage.now) c.requires.under)
