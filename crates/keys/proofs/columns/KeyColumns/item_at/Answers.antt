use Rattle.std.proofs.Common.{◌∙◌, arith, sym}
use Rattle.std.proofs.lemmas.Option.{get_or_from_slice_get}
use Rattle.arrays.specs.Prelude.{Seen, null}
use Rattle.evaluate.specs.Prelude.{is_plain}
use Rattle.group.specs.Scalars.{item_of_ref}
use Rattle.evaluate.proofs.RowLemmas.{has_sort, plain_is_no_list, sort_passes}
use Rattle.keys.proofs.columns.KeyColumns.item_at.Goals as goal

pub column_at-view-requires : goal.column_at-view-requires
column_at-view-requires c = has_sort is_plain _ c.requires.plain

pub at-requires-clause-plain : goal.at-requires-clause-plain
at-requires-clause-plain c =
    let v : Seen = c.column_at-view.result in
    plain_is_no_list v.kind (sort_passes is_plain _ _ c.requires.plain c.column_at-view.ensures.items.sort)

pub at-requires-clause-within : goal.at-requires-clause-within
at-requires-clause-within c = omega (arith, c.column_at-view.ensures.items.len, c.requires.within)

pub returns : goal.returns
returns c =
    let v : Seen = c.column_at-view.result in
    sym (get_or_from_slice_get v.items c.args.row (item_of_ref c.at.result) null c.at.ensures)
    ∙ c.column_at-view.ensures.items.item c.args.row c.requires.within
