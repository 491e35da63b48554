use Rattle.colbits.proofs.BuildingLemmas.{first_bits-none}
use Rattle.colbits.proofs.bitmap.builder.BitmapBuilder.new.Goals as goal

pub returns : goal.returns
returns c = first_bits-none c.new.result.items 0
