use Rattle.std.proofs.Common.{ap, ◌≡◌, ◌∙◌, true}
use Rattle.clap.specs.Words.{App, app_of, new_app}
use Rattle.clap.specs.Simple.{app_of_fields}
use Rattle.command_words.proofs.arguments.bare.Goals as goal

pub returns : goal.returns
returns c =
    let name = c.args.name.now in
    let no_help : app_of c.disable_help_flag.result ≡ (let a = new_app name in record a { top = record a.top { disable_help_flag = true } }) =
    ap app_of_fields c.disable_help_flag.ensures ∙ ap (λ (a : App). record a { top = record a.top { disable_help_flag = true } }) c.new.ensures.app in
    ap app_of_fields c.disable_version_flag.ensures ∙ ap (λ (a : App). record a { top = record a.top { disable_version_flag = true } }) no_help
