use Rattle.std.proofs.Common.{arith}
use Rattle.layout.specs.Offsets.{start_of}
use Rattle.layout.proofs.OffsetParts.{ends_within}
use Rattle.arrays.proofs.view.texts.Texts.all.Goals as goal

pub overflow_sub-end : goal.overflow_sub-end
overflow_sub-end c =
    let t = c.args.self.now in
    let rise = ends_within t.slots t.offsets (start_of t.offsets t.slots) (record { size = t.bounds.size; rising = t.bounds.rising; last = omega arith }) 0 (omega arith) in
    omega (arith, rise, c.get-start.ensures, c.get-end.ensures)
