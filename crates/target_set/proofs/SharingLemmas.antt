-- The values of this crate may go to other threads and be shared by them: no part of them belongs to one thread.
use denote.Param.Send.{IsSend, IsSync, sendable}
use Rattle.std.proofs.Crossing.{crosses}
use Rattle.label_set.proofs.SharingLemmas.{label_set_send, label_set_sync, name_send, name_sync}
use Rattle.scrape_config.proofs.SharingLemmas.{group_list_send, group_list_sync}
use Rattle.target_set.specs.contracts.files.FileGroups as FileGroups
use Rattle.target_set.specs.contracts.files.SharedGroups as SharedGroups
use Rattle.target_set.specs.contracts.targets.Target as Target
use Rattle.target_set.specs.contracts.targets.Targets as Targets

pub shared_groups_send : IsSend SharedGroups.the_row
shared_groups_send = search (group_list_send, group_list_sync, sendable, crosses) depth 60 fits 10000

pub shared_groups_sync : IsSync SharedGroups.the_row
shared_groups_sync = search (group_list_send, group_list_sync, sendable, crosses) depth 60 fits 10000

pub file_groups_send : IsSend FileGroups.the_row
file_groups_send = search (name_send, name_sync, shared_groups_send, shared_groups_sync, sendable, crosses) depth 60 fits 10000

pub file_groups_sync : IsSync FileGroups.the_row
file_groups_sync = search (name_send, name_sync, shared_groups_send, shared_groups_sync, sendable, crosses) depth 60 fits 10000

pub target_send : IsSend Target.the_row
target_send = search (label_set_send, label_set_sync, sendable, crosses) depth 60 fits 10000

pub target_sync : IsSync Target.the_row
target_sync = search (label_set_send, label_set_sync, sendable, crosses) depth 60 fits 10000

pub targets_send : IsSend Targets.the_row
targets_send = search (target_send, target_sync, sendable, crosses) depth 60 fits 10000

pub targets_sync : IsSync Targets.the_row
targets_sync = search (target_send, target_sync, sendable, crosses) depth 60 fits 10000
