-- The values of this crate may go to other threads and be shared by them: no part of them belongs to one thread.
use denote.Param.Send.{IsSend, IsSync, sendable}
use Rattle.std.proofs.Crossing.{crosses}
use Rattle.pattern_rule.proofs.SharingLemmas.{filling_send, filling_sync, pattern_send, pattern_sync}
use Rattle.rule_conf.proofs.SharingLemmas.{rule_conf_send, rule_conf_sync}
use Rattle.relabel.specs.contracts.actions.Templates as Templates
use Rattle.relabel.specs.contracts.rule.Rule as Rule
use Rattle.relabel.specs.contracts.rule.Task as Task
use Rattle.relabel.specs.contracts.rules.Rules as Rules

pub templates_send : IsSend Templates.the_row
templates_send = search (filling_send, filling_sync, sendable, crosses) depth 60 fits 10000

pub templates_sync : IsSync Templates.the_row
templates_sync = search (filling_send, filling_sync, sendable, crosses) depth 60 fits 10000

pub task_send : IsSend Task.the_row
task_send = search (templates_send, templates_sync, filling_send, filling_sync, sendable, crosses) depth 60 fits 10000

pub task_sync : IsSync Task.the_row
task_sync = search (templates_send, templates_sync, filling_send, filling_sync, sendable, crosses) depth 60 fits 10000

pub rule_send : IsSend Rule.the_row
rule_send = search (rule_conf_send, rule_conf_sync, pattern_send, pattern_sync, task_send, task_sync, sendable, crosses) depth 60 fits 10000

pub rule_sync : IsSync Rule.the_row
rule_sync = search (rule_conf_send, rule_conf_sync, pattern_send, pattern_sync, task_send, task_sync, sendable, crosses) depth 60 fits 10000

pub rules_send : IsSend Rules.the_row
rules_send = search (rule_send, rule_sync, sendable, crosses) depth 60 fits 10000

pub rules_sync : IsSync Rules.the_row
rules_sync = search (rule_send, rule_sync, sendable, crosses) depth 60 fits 10000
