use Rattle.std.proofs.Common.{◌≡◌, length, sym, rules}
use Rattle.types.proofs.ByteLemmas.{offset_at-empty}
use Rattle.layout.proofs.buffers.offset_in.Goals as goal

pub returns-then-is_empty : goal.returns-then-is_empty
returns-then-is_empty c =
    let none : length c.args.offsets.now ≡ 0 = search rules in
    sym (offset_at-empty c.args.width c.args.offsets.now c.args.j none)
