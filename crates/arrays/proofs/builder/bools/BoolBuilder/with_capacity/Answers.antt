use Rattle.arrays.proofs.GrowingLemmas.{bools_where-none}
use Rattle.arrays.proofs.builder.bools.BoolBuilder.with_capacity.Goals as goal

pub returns : goal.returns
returns c = bools_where-none c.in_ok-with_capacity.field-0 c.new.result c.new.ensures
