use Rattle.std.proofs.Common.{◌∙◌, ◌≡◌, ap, true}
use Rattle.std.specs.Prelude.{codes}
use Rattle.clap.specs.Simple.{App, app_of_fields, on_top}
use Rattle.clap.specs.Words.{app_of, new_app}
use Rattle.job.proofs.command_line.alone.Goals as goal

abbrev required : App → App
required = on_top (λ top. record top { subcommand_required = true })

abbrev helpful : App → App
helpful = on_top (λ top. record top { arg_required_else_help = true })

abbrev versioned : App → App
versioned = on_top (λ top. record top { has_version = true })

pub returns : goal.returns
returns c =
    let described : app_of c.about-described.result ≡ new_app (codes "arrowtab") = ap app_of_fields c.about-described.ensures ∙ c.new-bare.ensures.app in
    let explained : app_of c.after_help-explained.result ≡ new_app (codes "arrowtab") = ap app_of_fields c.after_help-explained.ensures ∙ described in
    let with_commands : app_of c.subcommand_required-required.result ≡ required (new_app (codes "arrowtab")) =
    ap app_of_fields c.subcommand_required-required.ensures ∙ ap required explained in
    let with_help : app_of c.arg_required_else_help-helpful.result ≡ helpful (required (new_app (codes "arrowtab"))) =
    ap app_of_fields c.arg_required_else_help-helpful.ensures ∙ ap helpful with_commands in
    ap app_of_fields c.version.ensures ∙ ap versioned with_help
