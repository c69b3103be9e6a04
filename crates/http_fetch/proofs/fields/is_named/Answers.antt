use Rattle.std.proofs.Common.{ap, ◌∙◌}
use Rattle.http_fetch.specs.Fields.{same_word, is_named}
use Rattle.http_fetch.proofs.fields.is_named.Goals as goal

pub returns : goal.returns
unfolding is_named
returns c = c.same_word.ensures ∙ ap (λ t. same_word t c.args.name.now) c.of.ensures
