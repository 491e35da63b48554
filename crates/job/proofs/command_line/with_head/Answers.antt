use Rattle.std.proofs.Common.{◌∙◌, ◌||◌, Bool, ap₂}
use Rattle.std.proofs.lemmas.Result.{IfOk-weaker}
use Rattle.clap.specs.Words.{with_rule}
use Rattle.job.proofs.command_line.with_head.Goals as goal

pub returns : goal.returns
returns c =
    let is = c.in_ok-over.ensures in
    record {
      line = IfOk-weaker c.arg.result _ _ (λ command added. added.shape c.rows-rows.ensures.local ∙ ap₂ with_rule is.line c.rows-rows.ensures.rule) c.arg.ensures;
      local = IfOk-weaker c.arg.result _ _ (λ command added. added.globals ∙ ap₂ (λ (a b : Bool). a || b) is.local c.rows-rows.ensures.local) c.arg.ensures;
    }
