use Rattle.std.proofs.Common.{◌≡◌, ◌++◌, map}
use Rattle.scrape_loop.specs.Entries.{sample_entry}
use Rattle.scrape_loop.proofs.scrape_entries.push_samples.Given as goal

abbrev pub invariant-loop-sample : goal.invariant-loop-sample
invariant-loop-sample l = l.entries.items ≡ l.fn.entries.items ++ map (sample_entry l.life l.moment) l.yielded
