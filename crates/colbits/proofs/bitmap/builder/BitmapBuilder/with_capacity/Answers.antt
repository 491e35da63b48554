use Rattle.colbits.proofs.BuildingLemmas.{first_bits-none}
use Rattle.colbits.proofs.bitmap.builder.BitmapBuilder.with_capacity.Goals as goal

pub returns : goal.returns
returns c = first_bits-none c.in_ok-bytes.bytes.items 0
