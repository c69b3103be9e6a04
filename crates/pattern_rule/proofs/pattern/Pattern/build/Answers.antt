use Rattle.std.proofs.Common.{◌∙◌}
use Rattle.pattern_rule.specs.Patterns as spec
use Rattle.pattern_rule.specs.Patterns.{reading}
use Rattle.pattern_rule.proofs.PatternLemmas.{is_pattern, may_be_refused}
use Rattle.pattern_rule.proofs.TestLemmas.{read-fits, refused-unfit}
use Rattle.pattern_rule.proofs.pattern.Pattern.build.Goals as goal

pub returns-in-Ok-clause-read : goal.returns-in-Ok-clause-read
returns-in-Ok-clause-read c =
    is_pattern c.in-Ok.regex c.args.text.now (c.in-Ok.ensures.source ∙ c.as_str.ensures.value ∙ c.in_ok-source.ensures) c.in-Ok.ensures.config c.in-Ok.ensures.read

pub returns-in-Ok-clause-is_one : goal.returns-in-Ok-clause-is_one
unfolding spec.is_pattern
returns-in-Ok-clause-is_one c =
    read-fits (reading c.args.text.now) (is_pattern c.in-Ok.regex c.args.text.now (c.in-Ok.ensures.source ∙ c.as_str.ensures.value ∙ c.in_ok-source.ensures) c.in-Ok.ensures.config c.in-Ok.ensures.read)

pub returns-in-Err-Syntax-clause-refused : goal.returns-in-Err-Syntax-clause-refused
returns-in-Err-Syntax-clause-refused c _ =
    may_be_refused c.args.text.now c.in-Err-Syntax.field-0-0.kind (rw c.in-Err-Syntax.field-0-is at c.in-Err-Syntax.ensures.kind)
    (rw (c.as_str.ensures.value, c.in_ok-source.ensures) at (c.in-Err-Syntax.ensures.by_grammar c.in-Err-Syntax.field-0-0 c.in-Err-Syntax.field-0-is))

pub returns-in-Err-Syntax-clause-is_none : goal.returns-in-Err-Syntax-clause-is_none
unfolding spec.is_pattern
returns-in-Err-Syntax-clause-is_none c _ =
    refused-unfit (reading c.args.text.now) (may_be_refused c.args.text.now c.in-Err-Syntax.field-0-0.kind (rw c.in-Err-Syntax.field-0-is at c.in-Err-Syntax.ensures.kind)
    (rw (c.as_str.ensures.value, c.in_ok-source.ensures) at (c.in-Err-Syntax.ensures.by_grammar c.in-Err-Syntax.field-0-0 c.in-Err-Syntax.field-0-is)))
