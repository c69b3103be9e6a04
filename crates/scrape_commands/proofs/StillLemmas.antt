-- How a call ends, with what follows from that.
use Rattle.std.proofs.Common.{ℕ, List}
use Rattle.std.specs.Prelude.{Result, Err}
use Rattle.command_words.specs.Words.{file_in}
use Rattle.outside.specs.Objects.{IsUntouched}
use Rattle.scrape_commands.specs.Ends.{Call, Ended, Speaks, WorkEnds, status_at, work_of}
use Rattle.scrape_commands.specs.Laws.{EndedStill}
use Rattle.scrape_commands.specs.declared.refusals.Refusal.{Refusal}
use Rattle.scrape_commands.specs.declared.refusals.Refusal.TheVariants.{NoMemory}
use Rattle.scrape_commands.proofs.DueLemmas.{complete_by}
use Rattle.scrape_commands.proofs.EndLemmas.{ended_by, later_by, printed_by, unwritten_by}

ended_still : (status : ℕ) (c : Call) → Ended status c → EndedStill status c
ended_still status c e = record { ended = e; printed = printed_by status c e; unwritten = unwritten_by status c e; complete = complete_by status c e; later = later_by status c e }

-- by the end of its work, and what was said of that
pub still_by : (end : Result (Unit {0}) Refusal) (c : Call) → WorkEnds end (work_of c) → Speaks end (file_in c.words) c.err → EndedStill (status_at end) c
still_by end c work speaks = ended_still (status_at end) c (ended_by end c work speaks)

-- nothing was done, since memory ran out
pub still_wanting : (c : Call) (file : List ℕ) → IsUntouched c.shelf → IsUntouched c.out → Speaks (Err NoMemory) file c.err → EndedStill 8 c
still_wanting c file shelf out speaks = still_by (Err NoMemory) c (record { cause = tt; shelf = shelf; out = out }) speaks
