use Rattle.std.proofs.Common.{◌∙◌, ◌++◌, ap, map}
use Rattle.std.specs.List.{range_with_len}
use Rattle.std.proofs.lemmas.Result.{on_ok_weaker}
use Rattle.colbits.specs.Bit.{bit_in}
use Rattle.colbits.proofs.BuildingLemmas.{one_bit, one_bit-zeros}
use Rattle.colbits.proofs.bitmap.builder.BitmapBuilder.push.Goals as goal

pub push_word-requires-clause-zeros : goal.push_word-requires-clause-zeros
push_word-requires-clause-zeros c = λ j past small. ap (λ n. bit_in n j) c.from.ensures ∙ one_bit-zeros c.args.bit j past

pub returns-clause-ok : goal.returns-clause-ok
returns-clause-ok c =
    on_ok_weaker c.push_word.result
    (λ grows. grows ∙ ap (λ n. c.args.self.now ++ map (bit_in n) (range_with_len 0 1)) c.from.ensures ∙ ap (λ bits. c.args.self.now ++ bits) (one_bit c.args.bit))
    c.push_word.ensures.ok
