use Rattle.std.proofs.Common.{ap, nat_eq}
use Rattle.colbits.proofs.BuildingLemmas.{shown_length}
use Rattle.colbits.proofs.bitmap.builder.BitmapBuilder.is_empty.Goals as goal

pub returns : goal.returns
returns c =
    let s = c.self.inside in
    ap (λ n. nat_eq n 0) (shown_length s.bytes.items s.last s.len c.args.self.now c.self.view_is)
