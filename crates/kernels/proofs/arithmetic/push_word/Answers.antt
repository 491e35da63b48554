use Rattle.std.proofs.Common.{◌≤◌, arith, rules, sym, subst}
use Rattle.arrays.specs.Prelude.{valid_in}
use Rattle.kernels.specs.Computed.{AreResults, result_at}
use Rattle.kernels.proofs.RowLemmas.{AreResults-rows}
use Rattle.kernels.proofs.arithmetic.push_word.Goals as goal

pub write_rows-requires : goal.write_rows-requires
write_rows-requires g c = let small : g.row.N ≤ 8 = g.met.T.Packed.small in search rules

pub shared_whole_as_slice-as_flattened : goal.shared_whole_as_slice-as_flattened
shared_whole_as_slice-as_flattened g c = let small : g.row.N ≤ 8 = g.met.T.Packed.small in omega arith

pub as_flattened-requires : goal.as_flattened-requires
as_flattened-requires g c = let small : g.row.N ≤ 8 = g.met.T.Packed.small in search rules

pub returns-clause-ok : goal.returns-clause-ok
returns-clause-ok g c =
    let ty = g.T.Integer.ty in
    let exact = result_at g.O.Operation.exact (g.A.Side.number c.args.a.now) (g.B.Side.number c.args.b.now) in
    let valid = valid_in c.args.valid.now in
    subst (AreResults ty exact valid _) (sym c.in_ok-extend_from_slice.ensures.items)
    (AreResults-rows ty exact valid c.args.start 64 c.args.numbers.now.items c.as_flattened.result.now c.write_rows.new.rows c.write_rows.ensures.size
    (c.write_rows.ensures.rows c.if-write_rows.false) c.as_flattened.ensures.value c.requires.before)
