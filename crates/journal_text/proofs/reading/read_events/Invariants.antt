use Rattle.std.proofs.Common.{length}
use Rattle.journal_text.proofs.ReadingLemmas.{Behind}
use Rattle.journal_text.proofs.reading.read_events.Given as goal

abbrev pub invariant-loop-alloc : goal.invariant-loop-alloc
invariant-loop-alloc l = Behind l.version l.bytes l.journal.events l.rest

abbrev pub decreases-loop-alloc : goal.decreases-loop-alloc
decreases-loop-alloc l = length l.rest
