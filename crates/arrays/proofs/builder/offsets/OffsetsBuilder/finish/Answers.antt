use Rattle.std.proofs.Common.{ap}
use Rattle.arrays.specs.Column.{SizedColumn}
use Rattle.arrays.proofs.LaidLemmas.{laid}
use Rattle.arrays.proofs.builder.offsets.OffsetsBuilder.finish.Goals as goal

pub returns-clause-laid : goal.returns-clause-laid
returns-clause-laid c =
    let s = c.self.inside in
    laid s.width s.valid s.offsets.items c.in_ok-offsets.offsets s.total c.len-len.result c.args.self.lengths c.in_ok-validity.validity c.buffer_of.result
    (ap (λ (q : SizedColumn). q.lengths) c.self.view_is) c.self.invariant c.len-len.ensures.count c.len-len.ensures.short c.in_ok-validity.ensures c.buffer_of.ensures c.in_ok-offsets.ensures
