use Rattle.std.proofs.Common.{◌≡◌, ◌∙◌, ◌<◌, ◌||◌, true, length, drop, slice_range, option_map, refl, sym, ap, arith}
use Rattle.std.proofs.lemmas.List.{get_or_default}
use Rattle.json.specs.Token as token
use Rattle.json.specs.Word.{is_operator, is_space, ends_word}
use Rattle.serde_json.specs.Data.{number}
use Rattle.json_scan.specs.Scalars.{begins_number}
use Rattle.json_scan.proofs.Numbers.{number_lexed, word_alone}
use Rattle.json_scan.proofs.Values.{token_spells}
use Rattle.json_scan.proofs.number.number_word.Goals as goal

pub returns-then-is_finite-clause-reads : goal.returns-then-is_finite-clause-reads
returns-then-is_finite-clause-reads c =
    let d = c.args.text.now in
    let start = c.after_space-start.result in
    let end = c.in_ok-end.end in
    let within : start < length d = omega (arith, c.in_ok-end.ensures.within) in
    let m = c.if-is_finite.ensures refl in
    let ends : ends_word (drop end d) ≡ true = ap (λ x. is_operator x || is_space x) (sym c.byte_at-then-end-start.ensures.head) ∙ sym c.if-ends_word.ensures in (
      m.0,
      token_spells (drop c.args.at d) (drop end d) (token.number (slice_range d start end)) (number m.0)
          (sym c.after_space-start.ensures.same
          ∙ number_lexed d start end within c.in_ok-end.ensures.within.1 (ap begins_number (get_or_default d start 0 32 within ∙ sym c.byte_at.ensures.value) ∙ sym c.if-not-begins_number.ensures) c.in_ok-end.ensures.part c.in_ok-end.ensures.word ends)
          (ap (option_map number) m.1),
      word_alone d start end m.0 c.in_ok-end.ensures.within.0 c.in_ok-end.ensures.part ends m.1,
    )
