use Rattle.std.proofs.Common.{subst}
use Rattle.json_read.specs.Prelude.{get_member, member_name}
use Rattle.json_read.specs.Members as member
use Rattle.json_scan.proofs.Values.{if_ok_then}
use Rattle.json_stream.specs.Column.{IsValues}
use Rattle.json_stream.proofs.ColumnLemmas.{column_held}
use Rattle.json_stream.proofs.column.column_of.Goals as goal

pub returns-in-Some : goal.returns-in-Some
returns-in-Some c =
    let p = c.args.parts in
    if_ok_then c.if_whole.result c.if_whole.ensures
    (λ a whole ms h.
    let values = subst (IsValues _ _ p.validity (get_member (member_name member.Data) ms)) c.in-Some.is h.values in
    column_held _ _ c.args.depth c.args.text.now ms p c.in-Some.array a h values whole.0 whole.1 whole.2)

pub returns : goal.returns
returns c =
    let p = c.args.parts in
    if_ok_then c.if_whole-2.result c.if_whole-2.ensures
    (λ a whole ms h.
    column_held _ _ c.args.depth c.args.text.now ms p c.in_ok-array.array a h (c.in_ok-array.ensures (get_member (member_name member.Data) ms) h.place) whole.0 whole.1 whole.2)
