-- The values of this crate may go to other threads and be shared by them: no part of them belongs to one thread.
use denote.Param.Send.{IsSend, IsSync, sendable}
use Rattle.std.proofs.Crossing.{crosses}
use Rattle.jobs_in_force.proofs.SharingLemmas.{settings_send, settings_sync}
use Rattle.label_set.proofs.SharingLemmas.{label_set_send, label_set_sync}
use Rattle.life_roll.proofs.SharingLemmas.{schedule_send, schedule_sync}
use Rattle.scrape_loop.proofs.SharingLemmas.{life_state_send, life_state_sync}
use Rattle.scrape_machine.specs.contracts.lives.Life as Life
use Rattle.scrape_machine.specs.contracts.lives.StartedScrape as StartedScrape

pub life_send : IsSend Life.the_row
life_send = search (life_state_send, life_state_sync, label_set_send, label_set_sync, settings_send, settings_sync, schedule_send, schedule_sync, sendable, crosses) depth 60 fits 10000

pub life_sync : IsSync Life.the_row
life_sync = search (life_state_send, life_state_sync, label_set_send, label_set_sync, settings_send, settings_sync, schedule_send, schedule_sync, sendable, crosses) depth 60 fits 10000

pub start_send : IsSend StartedScrape.the_row
start_send = search (settings_send, settings_sync, sendable, crosses) depth 60 fits 10000

pub start_sync : IsSync StartedScrape.the_row
start_sync = search (settings_send, settings_sync, sendable, crosses) depth 60 fits 10000
