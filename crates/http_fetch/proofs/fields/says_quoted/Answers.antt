use Rattle.std.proofs.Common.{rules, tests, ◌==◌}
use Rattle.std.proofs.lemmas.Iterator.Search.{any_from_yields_List}
use Rattle.std.proofs.lemmas.Iterator.Splits.{YieldsList-from_slice_split}
use Rattle.http_fetch.specs.Fields.{is_escaping, says_quoted}
use Rattle.http_fetch.proofs.fields.says_quoted.Goals as goal

pub returns : goal.returns
unfolding says_quoted
returns c =
    any_from_yields_List is_escaping _ _ _ c.any.ensures.ran
    (YieldsList-from_slice_split _ (λ b. b == 59) c.args.value.now c.split.ensures.rest c.split.ensures.done c.split.ensures.closure (λ x r q k. search (rules, tests)))
    (λ x b q k. search (rules, tests))
