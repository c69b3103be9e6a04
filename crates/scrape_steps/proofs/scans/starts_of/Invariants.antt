use Rattle.std.proofs.Common.{◌≡◌, ◌++◌, drop}
use Rattle.journal_text.specs.Lines.{number}
use Rattle.scrape_machine.specs.Machine.{starts_from}
use Rattle.scrape_steps.specs.Concerned.{concerned, places}
use Rattle.scrape_steps.proofs.ConcernedLemmas.{starts_at}
use Rattle.scrape_steps.proofs.scans.starts_of.Given as goal

abbrev pub invariant-loop-index : goal.invariant-loop-index
invariant-loop-index l =
    l.begun.items ++ starts_at l.jobs (number l.moment) (drop l.index (places l.lives)) (drop l.index (concerned l.lives)) ≡ starts_from l.jobs (number l.moment) 0 l.lives.all
