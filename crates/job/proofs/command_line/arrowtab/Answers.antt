use Rattle.std.proofs.Common.{◌∙◌, ap, ap₂}
use Rattle.std.proofs.lemmas.Result.{IfOk-weaker}
use Rattle.std.specs.Prelude.{codes}
use Rattle.clap.specs.Simple.{App}
use Rattle.clap.specs.Words.{with_subcommand}
use Rattle.job.specs.CommandLine.{with_command}
use Rattle.job.proofs.command_line.arrowtab.Goals as goal

pub returns : goal.returns
returns c =
    let with_stats = c.in_ok-with_stats.ensures ∙ ap (λ (a : App). with_command a (codes "stats")) c.alone-program.ensures in
    let with_schema = c.in_ok-with_schema.ensures ∙ ap (λ (a : App). with_command a (codes "schema")) with_stats in
    let with_validate = c.in_ok-with_validate.ensures ∙ ap (λ (a : App). with_command a (codes "validate")) with_schema in
    let with_rows = c.in_ok-with_rows.ensures.shape c.in_ok-head.ensures.local ∙ ap₂ with_subcommand with_validate (ap (λ (a : App). a.top) c.in_ok-head.ensures.line) in
    let with_export = c.in_ok-with_export.ensures ∙ ap (λ (a : App). with_command a (codes "export")) with_rows in
    IfOk-weaker c.subcommand-2.result _ _ (λ command added.
    added.shape c.in_ok-query.ensures.local ∙ ap₂ with_subcommand with_export (ap (λ (a : App). a.top) c.in_ok-query.ensures.line)) c.subcommand-2.ensures
