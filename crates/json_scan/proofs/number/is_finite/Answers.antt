use Rattle.std.proofs.Common.{◌∙◌, drop, sym, ap, arith, take_all}
use Rattle.std.proofs.lemmas.List.{length-drop}
use Rattle.std.specs.Float.{float_is_finite}
use Rattle.fast_float.specs.Text.{scan}
use Rattle.json_scan.proofs.Numbers.{finite_positive, finite_negative}
use Rattle.json_scan.proofs.number.is_finite.Goals as goal

pub returns-then-byte_at-eq45 : goal.returns-then-byte_at-eq45
returns-then-byte_at-eq45 c =
    let w = c.args.word.now in
    λ f.
    finite_negative w c.scan-numeral.result (omega arith) (c.scan-numeral.ensures.parts ∙ ap scan (take_all _ (drop 1 w) (omega (arith, length-drop 1 w)))) (ap float_is_finite (sym c.to_float.ensures) ∙ sym c.is_finite.ensures.value ∙ f)

pub returns-else-byte_at-eq45 : goal.returns-else-byte_at-eq45
returns-else-byte_at-eq45 c =
    λ f. finite_positive c.args.word.now c.scan-numeral-else-byte_at-eq45.result (omega arith) c.scan-numeral-else-byte_at-eq45.ensures.parts (ap float_is_finite (sym c.to_float-else-byte_at-eq45.ensures) ∙ sym c.is_finite-else-byte_at-eq45.ensures.value ∙ f)
