-- The values of this crate may go to other threads and be shared by them: no part of them belongs to one thread.
use denote.Param.Send.{IsSend, IsSync, sendable}
use Rattle.std.proofs.Crossing.{crosses}
use Rattle.report_samples.proofs.SharingLemmas.{report_sets_send, report_sets_sync}
use Rattle.scrape_loop.specs.contracts.life_state.LifeState as LifeState
use Rattle.scrape_loop.specs.contracts.past.Past as Past
use Rattle.scrape_loop.specs.contracts.target_labels.TargetLabels as TargetLabels
use Rattle.series_cache.proofs.SharingLemmas.{cache_send, cache_sync}

pub target_labels_send : IsSend TargetLabels.the_row
target_labels_send = search (report_sets_send, report_sets_sync, sendable, crosses) depth 60 fits 10000

pub target_labels_sync : IsSync TargetLabels.the_row
target_labels_sync = search (report_sets_send, report_sets_sync, sendable, crosses) depth 60 fits 10000

pub past_send : IsSend Past.the_row
past_send = search (target_labels_send, target_labels_sync, sendable, crosses) depth 60 fits 10000

pub past_sync : IsSync Past.the_row
past_sync = search (target_labels_send, target_labels_sync, sendable, crosses) depth 60 fits 10000

pub life_state_send : IsSend LifeState.the_row
life_state_send = search (past_send, past_sync, cache_send, cache_sync, sendable, crosses) depth 60 fits 10000

pub life_state_sync : IsSync LifeState.the_row
life_state_sync = search (past_send, past_sync, cache_send, cache_sync, sendable, crosses) depth 60 fits 10000
