use Rattle.std.proofs.Common.{sym, ◌∙◌}
use Rattle.std.specs.Char.{is_ascii_digit}
use Rattle.std.proofs.lemmas.List.Folds.{length-prefix_len}
use Rattle.value_text.proofs.DurationLemmas.{begins-some}
use Rattle.value_text.proofs.durations.in_units.Goals as goal

pub longer-requires-clause-some : goal.longer-requires-clause-some
longer-requires-clause-some c = rw (c.front_digits.ensures.front, length-prefix_len is_ascii_digit c.loop-unit.rest.now) (begins-some _ _ (sym c.begins_with.ensures ∙ c.if-begins_with.true))
