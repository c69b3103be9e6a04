-- What `synth` prints of the journal that it makes: the summary of its book, and how often relabelling rules were run for its events.
use Rattle.std.specs.Prelude.{ℕ, List, ◌++◌, codes, length}
use Rattle.book_text.specs.Summaries.{summary_text, number_line}
use Rattle.journal_text.specs.declared.events.Event.{Event}
use Rattle.scrape_machine.specs.Machine.{book_of}
use Rattle.scrape_machine.specs.Runs.{runs_of}
use Rattle.synth.specs.Scripts.{script_events}
use Rattle.synth.specs.declared.scripts.Plan.{Plan}

-- the summary of a journal's book, with a line for the runs behind it
abbrev pub summary_with_runs : List Event → List ℕ
summary_with_runs es = summary_text (length es) (book_of es) ++ number_line (codes "runs") (runs_of es)

abbrev pub synth_text : Plan → List ℕ
synth_text p = summary_with_runs (script_events p)
