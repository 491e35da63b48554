use Rattle.colbits.proofs.BuildingLemmas.{shown_length}
use Rattle.colbits.proofs.bitmap.builder.BitmapBuilder.len.Goals as goal

pub returns : goal.returns
returns c =
    let s = c.self.inside in
    shown_length s.bytes.items s.last s.len c.args.self.now c.self.view_is
