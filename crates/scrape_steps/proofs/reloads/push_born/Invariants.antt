use Rattle.std.proofs.Common.{◌≡◌, ◌++◌, ◌+◌, take, length}
use Rattle.std.specs.Prelude.{filter, not}
use Rattle.journal_text.specs.Lines.{number}
use Rattle.target_set.specs.declared.targets.Target.{Target}
use Rattle.scrape_steps.specs.Plans.{is_seated}
use Rattle.scrape_machine.specs.Machine.{born_all}
use Rattle.scrape_steps.proofs.reloads.push_born.Given as goal

abbrev pub invariant-loop-target : goal.invariant-loop-target
invariant-loop-target l =
    l.lives.items ≡ l.fn.lives.items ++ born_all (number l.moment) (l.first + length l.fn.lives.items) l.job (filter (λ (t : Target). not (is_seated l.held.seats.now t.identity l.held.place)) (take l.target-index l.job.kept))
