use Rattle.std.proofs.Common.{◌∙◌, ap, sym}
use Rattle.std.proofs.lemmas.Result.{IfOk-weaker}
use Rattle.arrays.specs.Shown.{kept}
use Rattle.select.proofs.JoinedNumbers.{all-joined_valid, kept-joined-none}
use Rattle.select.proofs.joining.valid.joined_validity.Goals as goal

pub returns-then-have_no_validity : goal.returns-then-have_no_validity
returns-then-have_no_validity c = sym (kept-joined-none c.args.views.now (sym c.if-have_no_validity.ensures))

pub returns : goal.returns
returns c =
    IfOk-weaker c.validity_of.result _ _ (λ v is. is ∙ ap kept (all-joined_valid c.args.views.now c.args.slots c.requires.slots)) c.validity_of.ensures
