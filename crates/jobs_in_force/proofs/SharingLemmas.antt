-- The values of this crate may go to other threads and be shared by them: no part of them belongs to one thread.
use denote.Param.Send.{IsSend, IsSync, sendable}
use Rattle.std.proofs.Crossing.{crosses}
use Rattle.jobs_in_force.specs.contracts.jobs.InForce as InForce
use Rattle.jobs_in_force.specs.contracts.jobs.Settings as Settings
use Rattle.jobs_in_force.specs.contracts.jobs.SharedFiles as SharedFiles
use Rattle.jobs_in_force.specs.contracts.jobs.SharedJob as SharedJob
use Rattle.jobs_in_force.specs.contracts.jobs.SharedTargets as SharedTargets
use Rattle.jobs_in_force.specs.contracts.jobs.TargetIndex as TargetIndex
use Rattle.label_set.proofs.MapSharing.{columns_send, columns_sync, table_send, table_sync}
use Rattle.label_set.proofs.SharingLemmas.{label_set_send, label_set_sync}
use Rattle.label_set.specs.contracts.lists.ListOf as ListOf
use Rattle.scrape_config.proofs.SharingLemmas.{job_send, job_sync}
use Rattle.target_set.proofs.SharingLemmas.{file_groups_send, file_groups_sync, targets_send, targets_sync}
use Rattle.target_set.specs.contracts.files.FileGroups as FileGroups

pub shared_job_send : IsSend SharedJob.the_row
shared_job_send = search (job_send, job_sync, sendable, crosses) depth 60 fits 10000

pub shared_job_sync : IsSync SharedJob.the_row
shared_job_sync = search (job_send, job_sync, sendable, crosses) depth 60 fits 10000

pub settings_send : IsSend Settings.the_row
settings_send = search (shared_job_send, shared_job_sync, sendable, crosses) depth 60 fits 10000

pub settings_sync : IsSync Settings.the_row
settings_sync = search (shared_job_send, shared_job_sync, sendable, crosses) depth 60 fits 10000

pub file_list_send : IsSend (ListOf.the_row FileGroups.the_row)
file_list_send = search (file_groups_send, file_groups_sync, sendable, crosses) depth 60 fits 10000

pub file_list_sync : IsSync (ListOf.the_row FileGroups.the_row)
file_list_sync = search (file_groups_send, file_groups_sync, sendable, crosses) depth 60 fits 10000

pub shared_files_send : IsSend SharedFiles.the_row
shared_files_send = search (file_list_send, file_list_sync, sendable, crosses) depth 60 fits 10000

pub shared_files_sync : IsSync SharedFiles.the_row
shared_files_sync = search (file_list_send, file_list_sync, sendable, crosses) depth 60 fits 10000

pub target_index_send : IsSend TargetIndex.the_row
target_index_send = search (targets_send, targets_sync, label_set_send, label_set_sync, columns_send, columns_sync, table_send, table_sync, sendable, crosses) depth 60 fits 10000

pub target_index_sync : IsSync TargetIndex.the_row
target_index_sync = search (targets_send, targets_sync, label_set_send, label_set_sync, columns_send, columns_sync, table_send, table_sync, sendable, crosses) depth 60 fits 10000

pub shared_targets_send : IsSend SharedTargets.the_row
shared_targets_send = search (target_index_send, target_index_sync, sendable, crosses) depth 60 fits 10000

pub shared_targets_sync : IsSync SharedTargets.the_row
shared_targets_sync = search (target_index_send, target_index_sync, sendable, crosses) depth 60 fits 10000

pub in_force_send : IsSend InForce.the_row
in_force_send = search (shared_job_send, shared_job_sync, shared_files_send, shared_files_sync, shared_targets_send, shared_targets_sync, sendable, crosses) depth 60 fits 10000

pub in_force_sync : IsSync InForce.the_row
in_force_sync = search (shared_job_send, shared_job_sync, shared_files_send, shared_files_sync, shared_targets_send, shared_targets_sync, sendable, crosses) depth 60 fits 10000
