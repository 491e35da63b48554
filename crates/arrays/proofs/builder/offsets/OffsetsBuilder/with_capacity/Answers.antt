use Rattle.std.proofs.Common.{◌∙◌, ◌++◌, ap, pos}
use Rattle.types.specs.Prelude.{bytes_of_number, offset_type}
use Rattle.arrays.proofs.LaidLemmas.{fresh-none, lengths-none}
use Rattle.arrays.proofs.builder.offsets.OffsetsBuilder.with_capacity.Goals as goal

pub invariant_of-result : goal.invariant_of-result
invariant_of-result c =
    fresh-none c.args.width c.new.result c.push.new.bytes.items c.new.ensures
    (c.in_ok-push.ensures.ok ∙ ap (λ xs. xs ++ bytes_of_number (offset_type c.args.width) (pos 0)) c.in_ok-offsets.ensures.items)

pub returns-clause-empty : goal.returns-clause-empty
returns-clause-empty c = lengths-none c.args.width c.new.result c.push.new.bytes.items c.new.ensures
