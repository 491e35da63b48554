use Rattle.std.proofs.Common.{refl}
use Rattle.arrays.specs.Prelude.{text}
use Rattle.json_read.specs.Prelude.{string}
use Rattle.json_stream.proofs.slots.TextColumnSlotBuilder.push_value.Goals as goal

pub returns-in-Ok-clause-ok : goal.returns-in-Ok-clause-ok
returns-in-Ok-clause-ok c =
    let s = c.in_ok-read.read.value.now in
    let fits = rw c.in-Ok.ensures.width at c.in-Ok.ensures.fits in
    (string s, c.in_ok-read.ensures.reads, record { item = text s; spelled = refl; grown = c.in-Ok.ensures.ok; fits = fits })
