-- The values of this crate may go to other threads and be shared by them: no part of them belongs to one thread.
use denote.Param.Send.{IsSend, IsSync, sendable}
use Rattle.std.proofs.Crossing.{crosses}
use Rattle.label_set.proofs.SharingLemmas.{name_list_send, name_list_sync, name_send, name_sync}
use Rattle.label_set.specs.contracts.lists.ListOf as ListOf
use Rattle.rule_conf.specs.contracts.conf.Action as Action
use Rattle.rule_conf.specs.contracts.conf.RuleConf as RuleConf

pub action_send : IsSend Action.the_row
action_send = search (sendable, crosses) depth 60 fits 10000

pub action_sync : IsSync Action.the_row
action_sync = search (sendable, crosses) depth 60 fits 10000

pub rule_conf_send : IsSend RuleConf.the_row
rule_conf_send = search (name_send, name_sync, name_list_send, name_list_sync, action_send, action_sync, sendable, crosses) depth 60 fits 10000

pub rule_conf_sync : IsSync RuleConf.the_row
rule_conf_sync = search (name_send, name_sync, name_list_send, name_list_sync, action_send, action_sync, sendable, crosses) depth 60 fits 10000

pub rule_list_send : IsSend (ListOf.the_row RuleConf.the_row)
rule_list_send = search (rule_conf_send, rule_conf_sync, sendable, crosses) depth 60 fits 10000

pub rule_list_sync : IsSync (ListOf.the_row RuleConf.the_row)
rule_list_sync = search (rule_conf_send, rule_conf_sync, sendable, crosses) depth 60 fits 10000
