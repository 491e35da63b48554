use Rattle.std.proofs.Common.{◌∙◌, ◌++◌, ap}
use Rattle.std.proofs.lemmas.Result.{on_ok_weaker}
use Rattle.colbits.proofs.BitLemmas.{listed}
use Rattle.colbits.proofs.bitmap.builder.BitmapBuilder.push_bits.Goals as goal

pub returns-clause-ok : goal.returns-clause-ok
returns-clause-ok c = on_ok_weaker c.push_places.result (λ grows. grows ∙ ap (λ bits. c.args.self.now ++ bits) (listed c.args.bits.now)) c.push_places.ensures.ok
