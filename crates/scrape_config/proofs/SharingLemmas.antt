-- The values of this crate may go to other threads and be shared by them: no part of them belongs to one thread.
use denote.Param.Send.{IsSend, IsSync, sendable}
use Rattle.std.proofs.Crossing.{crosses}
use Rattle.label_set.proofs.SharingLemmas.{name_list_send, name_list_sync, name_send, name_sync, pair_list_send, pair_list_sync}
use Rattle.label_set.specs.contracts.lists.ListOf as ListOf
use Rattle.outside.proofs.SharingLemmas.{scheme_send, scheme_sync}
use Rattle.relabel.proofs.SharingLemmas.{rules_send, rules_sync}
use Rattle.rule_conf.proofs.SharingLemmas.{rule_list_send, rule_list_sync}
use Rattle.scrape_config.specs.contracts.conf.Group as Group
use Rattle.scrape_config.specs.contracts.conf.Job as Job
use Rattle.scrape_config.specs.contracts.conf.JobConf as JobConf
use Rattle.scrape_config.specs.contracts.conf.Param as Param
use Rattle.scrape_limits.proofs.SharingLemmas.{limits_send, limits_sync}

pub param_send : IsSend Param.the_row
param_send = search (name_send, name_sync, name_list_send, name_list_sync, sendable, crosses) depth 60 fits 10000

pub param_sync : IsSync Param.the_row
param_sync = search (name_send, name_sync, name_list_send, name_list_sync, sendable, crosses) depth 60 fits 10000

pub param_list_send : IsSend (ListOf.the_row Param.the_row)
param_list_send = search (param_send, param_sync, sendable, crosses) depth 60 fits 10000

pub param_list_sync : IsSync (ListOf.the_row Param.the_row)
param_list_sync = search (param_send, param_sync, sendable, crosses) depth 60 fits 10000

pub group_send : IsSend Group.the_row
group_send = search (pair_list_send, pair_list_sync, name_list_send, name_list_sync, name_send, name_sync, sendable, crosses) depth 60 fits 10000

pub group_sync : IsSync Group.the_row
group_sync = search (pair_list_send, pair_list_sync, name_list_send, name_list_sync, name_send, name_sync, sendable, crosses) depth 60 fits 10000

pub group_list_send : IsSend (ListOf.the_row Group.the_row)
group_list_send = search (group_send, group_sync, sendable, crosses) depth 60 fits 10000

pub group_list_sync : IsSync (ListOf.the_row Group.the_row)
group_list_sync = search (group_send, group_sync, sendable, crosses) depth 60 fits 10000

pub job_conf_send : IsSend JobConf.the_row
job_conf_send = search (name_send, name_sync, scheme_send, scheme_sync, param_list_send, param_list_sync, rule_list_send, rule_list_sync, limits_send, limits_sync, group_list_send, group_list_sync, name_list_send, name_list_sync, sendable, crosses) depth 60 fits 10000

pub job_conf_sync : IsSync JobConf.the_row
job_conf_sync = search (name_send, name_sync, scheme_send, scheme_sync, param_list_send, param_list_sync, rule_list_send, rule_list_sync, limits_send, limits_sync, group_list_send, group_list_sync, name_list_send, name_list_sync, sendable, crosses) depth 60 fits 10000

pub job_send : IsSend Job.the_row
job_send = search (job_conf_send, job_conf_sync, rules_send, rules_sync, sendable, crosses) depth 60 fits 10000

pub job_sync : IsSync Job.the_row
job_sync = search (job_conf_send, job_conf_sync, rules_send, rules_sync, sendable, crosses) depth 60 fits 10000
