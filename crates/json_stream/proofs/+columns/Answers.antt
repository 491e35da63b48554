use Rattle.std.proofs.Common.{◌≡◌, ◌∙◌, ◌-◌, drop, length, ap, sym, subst, rules}
use Rattle.std.specs.Prelude.{IfOk}
use Rattle.arrays.specs.Prelude.{Field, Kind, Narrow, OffsetWidth, Wide, kind_of, out-Field}
use Rattle.arrays.proofs.ShapeLemmas.{kind_of-List, kind_of-LargeList}
use Rattle.arrays.specs.Kind as kind
use Rattle.json_read.specs.Prelude.{Data, HoldsColumn, object}
use Rattle.json_scan.specs.Spelling.{SpellsAt}
use Rattle.json_stream.proofs.ListLemmas.{child_below, child_there, child_held, lists_held}
use Rattle.json_stream.proofs.+columns.Goals as goal

lists_of : (w : OffsetWidth) (k : Kind) (item inner : Field) → k ≡ kind.lists w (kind_of (out-Field inner).ty) → item ≡ inner → kind.lists w (kind_of (out-Field item).ty) ≡ k
lists_of w k item inner is same = ap (λ f. kind.lists w (kind_of (out-Field f).ty)) same ∙ sym is

pub column::read_uncoded-returns-in-List-clause-ok : goal.column::read_uncoded-returns-in-List-clause-ok
column::read_uncoded-returns-in-List-clause-ok t c =
    subst
    (λ k. IfOk c.read_list.result (λ r. (d : Data) × SpellsAt c.args.cursor.depth (drop c.args.cursor.at c.args.cursor.text.now) d (drop r.end c.args.cursor.text.now) × HoldsColumn k (length r.value.items) d r.value))
    (lists_of Narrow _ _ _ (ap kind_of c.in-List.is ∙ kind_of-List c.in-List.item) c.deref.ensures) c.read_list.ensures.ok

pub column::read_uncoded-returns-in-LargeList-clause-ok : goal.column::read_uncoded-returns-in-LargeList-clause-ok
column::read_uncoded-returns-in-LargeList-clause-ok t c =
    subst
    (λ k.
    IfOk c.read_list-in-LargeList.result (λ r. (d : Data) × SpellsAt c.args.cursor.depth (drop c.args.cursor.at c.args.cursor.text.now) d (drop r.end c.args.cursor.text.now) × HoldsColumn k (length r.value.items) d r.value))
    (lists_of Wide _ _ _ (ap kind_of c.in-LargeList.is ∙ kind_of-LargeList c.in-LargeList.item) c.deref-in-LargeList.ensures) c.read_list-in-LargeList.ensures.ok

pub list::child_array-returns-in-Ok : goal.list::child_array-returns-in-Ok
list::child_array-returns-in-Ok t c =
    λ d holds.
    let read = c.in-Ok.ensures.ok in
    let stands = rw c.in-At.is at holds in
    child_there _ c.args.depth c.args.text.now d read.0 c.in-At.place c.in-Ok.read.value stands (rw c.if-read_uncoded-place.true at read.1) read.2

pub list::read_list-list_array-requires : goal.list::read_list-list_array-requires
list::read_list-list_array-requires t c =
    let read = c.in_ok-read.ensures.ok in
    let child = c.in_ok-child.child in
    let inner = child_below _ c.args.cursor.depth c.saturating_sub.result c.args.cursor.text.now c.in-Some-child.child child c.saturating_sub.ensures c.in_ok-child.ensures in
    let both = child_held c.args.width _ (c.args.cursor.depth - 1) c.args.cursor.text.now read.0 c.in_ok-read.read.value c.in-Some-child.child child read.2 c.in-Some-child.is inner in
    record { kind = both.0; plain = both.1; enough = search rules }

pub list::read_list-returns-clause-ok : goal.list::read_list-returns-clause-ok
list::read_list-returns-clause-ok t c =
    let read = c.in_ok-read.ensures.ok in
    let parts = c.in_ok-read.read.value in
    let slots = c.in_ok-slots.slots in
    let laid = c.in_ok-slots.ensures in
    let child = c.in_ok-child.child in
    let inner = child_below _ c.args.cursor.depth c.saturating_sub.result c.args.cursor.text.now c.in-Some-child.child child c.saturating_sub.ensures c.in_ok-child.ensures in
    let lawful = rw laid.width at c.in_ok-value.ensures.lawful in
    let shows = rw laid.width at c.in_ok-value.ensures.shows in (
      object read.0,
      read.1,
      lists_held c.args.width _ (c.args.cursor.depth - 1) c.args.cursor.text.now read.0 parts slots.len c.in-Some.offsets c.in-Some-child.child slots.validity slots.offsets child c.in_ok-value.value
          read.2 c.in-Some.is c.in-Some-child.is laid.count laid.whole laid.validity laid.offsets laid.enough inner lawful shows,
    )
