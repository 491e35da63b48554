use denote.Exit.{no}
use denote.Param.Send.{IsSync, arg_send, param_send, sendable}
use Rattle.std.proofs.Common.{◌≡◌, ◌+◌, ◌-◌, List, arith, map, subst}
use Rattle.std.specs.Arc.{arc_value}
use Rattle.arrays.specs.Batch.{Batch}
use Rattle.answers.specs.Prelude.{AreLooked, all_rows, first_fields}
use Rattle.answers.proofs.SendingLemmas.{several-send}
use Rattle.answers.proofs.piece.+pieces.Goals as goal

pub join-late-requires-send-F : goal.join-late-requires-send-F
join-late-requires-send-F g t c κs within =
    let threads : IsSync g.row.T = search sendable in
    let gate : IsSync g.row.G = search sendable in
    param_send 1 _ (arg_send _ no _ (several-send _ _ _ _ _ _ _ threads gate))

pub put_together-requires : goal.put_together-requires
put_together-requires g t c =
    let bs : List Batch = map arc_value c.args.scan.now.batches.now in
    let a = c.requires.scan in
    let middle = c.args.from + (c.args.count - c.back_of-high.result) in (
      first_fields bs,
      c.args.scan.now.query.now,
      all_rows bs,
      c.args.scan.now.cuts.pieces,
      c.args.from,
      middle,
      middle + c.back_of-high.result,
      record {
        few = a.few;
        comparable = a.comparable;
        one = a.one;
        low = omega arith;
        high = omega arith;
        within = omega (arith, c.requires.within, c.back_of-high.ensures.half);
        front = c.join-late.ensures.second;
        behind = c.join-late.ensures.first;
      },
    )

pub returns : goal.returns
returns g t c =
    let bs : List Batch = map arc_value c.args.scan.now.batches.now in
    let a = c.requires.scan in
    let pieces = c.args.scan.now.cuts.pieces in
    let from = c.args.from in
    let middle = from + (c.args.count - c.back_of-high.result) in
    let to = middle + c.back_of-high.result in
    let is : to ≡ from + c.args.count = omega (arith, c.back_of-high.ensures.half) in
    subst (λ n. AreLooked (first_fields bs) c.args.scan.now.query.now (all_rows bs) pieces from n c.put_together.result) is
    (c.put_together.ensures (first_fields bs) c.args.scan.now.query.now (all_rows bs) pieces from middle to (record {
      few = a.few;
      comparable = a.comparable;
      one = a.one;
      low = omega arith;
      high = omega arith;
      within = omega (arith, c.requires.within, c.back_of-high.ensures.half);
      front = c.join-late.ensures.second;
      behind = c.join-late.ensures.first;
    }))
