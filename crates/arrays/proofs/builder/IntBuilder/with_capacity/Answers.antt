use Rattle.std.proofs.Common.{ap, refl}
use Rattle.arrays.specs.Builder.{built}
use Rattle.arrays.proofs.builder.IntBuilder.with_capacity.Goals as goal

pub returns : goal.returns
unfolding built
returns c = (refl, ap (built c.args.ty c.in_ok-with_capacity.field-0.items) c.new.ensures)
