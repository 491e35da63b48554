use Rattle.std.proofs.Common.{◌∙◌}
use Rattle.std.proofs.lemmas.Result.{IfOk-weaker}
use Rattle.colbits.proofs.BitLemmas.{listed_not}
use Rattle.colbits.proofs.bitmap.BitmapBuf.not.Goals as goal

pub returns : goal.returns
returns c = IfOk-weaker c.from_places.result _ _ (λ m is. is ∙ listed_not c.args.a.now) c.from_places.ensures
