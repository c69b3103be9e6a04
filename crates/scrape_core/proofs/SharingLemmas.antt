-- The values of this crate may go to other threads and be shared by them: no part of them belongs to one thread.
use denote.Param.Send.{IsSend, IsSync, sendable}
use denote.Param.SendFields.{declared_send, declared_sync}
use Rattle.std.proofs.Crossing.{crosses}
use Rattle.appender_book.proofs.SharingLemmas.{book_send, book_sync}
use Rattle.jobs_in_force.proofs.SharingLemmas.{in_force_send, in_force_sync}
use Rattle.journal_text.proofs.SharingLemmas.{journal_send, journal_sync}
use Rattle.scrape_core.specs.contracts.machine.Core as Core
use Rattle.scrape_core.specs.contracts.machine.Core.TheInside as CoreInside
use Rattle.scrape_core.specs.contracts.state.State as State
use Rattle.scrape_machine.proofs.SharingLemmas.{life_send, life_sync, start_send, start_sync}
use Rattle.scrape_steps.proofs.SharingLemmas.{endings_send, endings_sync}

pub state_send : IsSend State.the_row
state_send = search (in_force_send, in_force_sync, life_send, life_sync, start_send, start_sync, endings_send, endings_sync, sendable, crosses) depth 60 fits 10000

pub state_sync : IsSync State.the_row
state_sync = search (in_force_send, in_force_sync, life_send, life_sync, start_send, start_sync, endings_send, endings_sync, sendable, crosses) depth 60 fits 10000

inside_core_send : IsSend CoreInside.the_row
inside_core_send = declared_send CoreInside.the_type (journal_send, (book_send, (state_send, (search sendable depth 20, tt))))

pub core_send : IsSend Core.the_row
core_send = search (inside_core_send, sendable) depth 10

inside_core_sync : IsSync CoreInside.the_row
inside_core_sync = declared_sync CoreInside.the_type (journal_sync, (book_sync, (state_sync, (search sendable depth 20, tt))))

pub core_sync : IsSync Core.the_row
core_sync = search (inside_core_sync, sendable) depth 10
