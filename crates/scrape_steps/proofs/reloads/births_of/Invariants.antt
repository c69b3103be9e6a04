use Rattle.std.proofs.Common.{◌≡◌, take}
use Rattle.journal_text.specs.Lines.{number}
use Rattle.scrape_steps.specs.Plans.{births_by}
use Rattle.scrape_steps.proofs.reloads.births_of.Given as goal

abbrev pub invariant-loop-job : goal.invariant-loop-job
invariant-loop-job l = l.lives.items ≡ births_by (number l.moment) l.first l.held l.names (take l.job-index l.news)
