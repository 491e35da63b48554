use Rattle.std.proofs.Common.{◌∙◌, ◌≡◌, ◌||◌, Bool, ap, ap₂, false}
use Rattle.std.proofs.lemmas.Result.{IfOk-weaker}
use Rattle.clap.specs.Simple.{app_of_fields}
use Rattle.clap.specs.Words.{app_of, new_app, with_rule}
use Rattle.clap.specs.declared.builder.command.Command.TheViews.{out-Command}
use Rattle.job.specs.CommandLine.{files, workers}
use Rattle.job.proofs.command_line.over_files.Goals as goal

pub returns : goal.returns
returns c =
    let described : app_of c.about-described.result ≡ new_app c.args.name.now = ap app_of_fields c.about-described.ensures ∙ c.new-bare.ensures.app in
    let explained : app_of c.after_help-explained.result ≡ new_app c.args.name.now = ap app_of_fields c.after_help-explained.ensures ∙ described in
    let local : (out-Command c.after_help-explained.result).has_globals ≡ false = ap (λ f. f.has_globals) c.after_help-explained.ensures ∙ ap (λ f. f.has_globals) c.about-described.ensures ∙ c.new-bare.ensures.local in
    let is = c.in_ok-over.ensures in
    let over : app_of c.in_ok-over.over ≡ with_rule (new_app c.args.name.now) files = is.shape c.files-files.ensures.local ∙ ap₂ with_rule explained c.files-files.ensures.rule in
    let over_local : (out-Command c.in_ok-over.over).has_globals ≡ false = is.globals ∙ ap₂ (λ (a b : Bool). a || b) local c.files-files.ensures.local in
    let next = c.in_ok-by_workers.ensures in
    let by : app_of c.in_ok-by_workers.by_workers ≡ with_rule (with_rule (new_app c.args.name.now) files) workers = next.shape c.workers-workers.ensures.local ∙ ap₂ with_rule over c.workers-workers.ensures.rule in
    let by_local : (out-Command c.in_ok-by_workers.by_workers).has_globals ≡ false = next.globals ∙ ap₂ (λ (a b : Bool). a || b) over_local c.workers-workers.ensures.local in
    record {
      line = IfOk-weaker c.arg-3.result _ _ (λ command added. added.shape c.column.ensures.local ∙ ap₂ with_rule by c.column.ensures.rule) c.arg-3.ensures;
      local = IfOk-weaker c.arg-3.result _ _ (λ command added. added.globals ∙ ap₂ (λ (a b : Bool). a || b) by_local c.column.ensures.local) c.arg-3.ensures;
    }
