use Rattle.std.proofs.Common.{◌∙◌}
use Rattle.std.proofs.lemmas.Result.{IfOk-weaker}
use Rattle.colbits.proofs.BitLemmas.{listed}
use Rattle.colbits.proofs.bitmap.BitmapBuf.from_bools.Goals as goal

pub returns : goal.returns
returns c = IfOk-weaker c.from_places.result _ _ (λ m is. is ∙ listed c.args.bools.now) c.from_places.ensures
