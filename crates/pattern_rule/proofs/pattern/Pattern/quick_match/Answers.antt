use Rattle.std.proofs.Common.{◌∙◌, sym, ap}
use Rattle.std.specs.Str.{bytes_eq}
use Rattle.pattern_rule.proofs.DefaultLemmas.{any_matches}
use Rattle.pattern_rule.proofs.WordLemmas.{word_matches}
use Rattle.pattern_rule.proofs.pattern.Pattern.quick_match.Goals as goal

pub returns-then-self : goal.returns-then-self
returns-then-self c =
    rw (← c.self.view_is) (sym (any_matches c.self.inside.text c.args.text.now c.utf8.text (λ k. (c.type_inv.text k).fits) (sym c.self.invariant.3 ∙ c.if-self.true)))

pub returns-then-self-2 : goal.returns-then-self-2
returns-then-self-2 c =
    rw (← c.self.view_is)
    (c.is_same.ensures ∙ ap (λ p. bytes_eq p c.args.text.now) c.as_str.ensures
    ∙ word_matches c.self.inside.text c.args.text.now c.utf8.text (λ k. (c.type_inv.text k).fits) (sym c.self.invariant.4 ∙ c.if-self-2.true))
