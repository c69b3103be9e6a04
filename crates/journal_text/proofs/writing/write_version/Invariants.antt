use Rattle.std.proofs.Common.{◌≡◌, take}
use Rattle.journal_text.specs.Events.{journal_text}
use Rattle.journal_text.proofs.writing.write_version.Given as goal

abbrev pub invariant-loop-event : goal.invariant-loop-event
invariant-loop-event l = l.text.items ≡ journal_text l.fn.version (take l.event-index l.event-items)
