use Rattle.std.proofs.Common.{◌∙◌, ◌≡◌, ◌||◌, Bool, ap₂, false}
use Rattle.std.proofs.lemmas.Result.{IfOk-weaker}
use Rattle.clap.specs.Words.{app_of, with_rule}
use Rattle.clap.specs.declared.builder.command.Command.TheViews.{out-Command}
use Rattle.job.specs.CommandLine.{over_files, query, query_file}
use Rattle.std.specs.Prelude.{codes}
use Rattle.job.proofs.command_line.with_query.Goals as goal

pub returns : goal.returns
returns c =
    let is = c.in_ok-over.ensures in
    let next = c.in_ok-asked.ensures in
    let asked : app_of c.in_ok-asked.asked ≡ with_rule (over_files (codes "query")) query = next.shape c.query-query.ensures.local ∙ ap₂ with_rule is.line c.query-query.ensures.rule in
    let asked_local : (out-Command c.in_ok-asked.asked).has_globals ≡ false = next.globals ∙ ap₂ (λ (a b : Bool). a || b) is.local c.query-query.ensures.local in
    let last = c.in_ok-either.ensures in
    let either : app_of c.in_ok-either.either ≡ with_rule (with_rule (over_files (codes "query")) query) query_file = last.shape c.query_file-from_file.ensures.local ∙ ap₂ with_rule asked c.query_file-from_file.ensures.rule in
    let either_local : (out-Command c.in_ok-either.either).has_globals ≡ false = last.globals ∙ ap₂ (λ (a b : Bool). a || b) asked_local c.query_file-from_file.ensures.local in
    record {
      line = IfOk-weaker c.arg-3.result _ _ (λ command added. added.shape c.output.ensures.local ∙ ap₂ with_rule either c.output.ensures.rule) c.arg-3.ensures;
      local = IfOk-weaker c.arg-3.result _ _ (λ command added. added.globals ∙ ap₂ (λ (a b : Bool). a || b) either_local c.output.ensures.local) c.arg-3.ensures;
    }
