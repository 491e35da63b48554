use Rattle.std.proofs.Common.{◌∙◌, ℕ, false, ap, get_or, sym}
use Rattle.std.proofs.lemmas.Result.{IfOk-weaker}
use Rattle.arrays.specs.Shown.{kept}
use Rattle.arrays.proofs.ValidityLemmas.{kept_buffer}
use Rattle.select.specs.Joined.{joined_valid}
use Rattle.select.proofs.JoinedNumbers.{all-joined_valid, numbers-joined}
use Rattle.select.proofs.joining.numbers.join.Goals as goal

pub from_numbers-requires-clause-bits : goal.from_numbers-requires-clause-bits
from_numbers-requires-clause-bits c =
    let views = c.args.views.now in
    let f = λ (i : ℕ). get_or (joined_valid views) i false in
    (kept_buffer c.args.slots f c.buffer_of.result c.in_ok-validity.validity
    (c.in_ok-validity.ensures ∙ ap kept (sym (all-joined_valid views c.args.slots c.requires.slots))) c.buffer_of.ensures).long

pub returns : goal.returns
returns c =
    IfOk-weaker c.from_numbers.result _ _
    (λ a is. is
    ∙ numbers-joined c.args.ty c.args.views.now c.args.slots c.in_ok-joined_numbers.field-0.items c.in_ok-values.values c.in_ok-validity.validity c.buffer_of.result
    c.requires.slots c.in_ok-joined_numbers.ensures.reported c.in_ok-validity.ensures c.buffer_of.ensures c.in_ok-joined_numbers.ensures.numbers c.in_ok-values.ensures)
    c.from_numbers.ensures
