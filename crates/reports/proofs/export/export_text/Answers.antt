use Rattle.std.proofs.Common.{◌∙◌, ◌++◌, ◌∷◌, [], ap}
use Rattle.reports.proofs.ExportLemmas.{text-exported}
use Rattle.reports.proofs.export.export_text.Goals as goal

pub returns-clause-output : goal.returns-clause-output
returns-clause-output c =
    let v = c.args.version.now in
    let f = c.in_ok-file.file in
    let is = c.in_ok-file.ensures in
    c.in_ok-push_str.ensures.bytes
    ∙ ap (λ t. t ++ 10 ∷ []) (c.in_ok-text.ensures ∙ text-exported v.fields v.history f is.fields is.tables is.under is.lawful)
