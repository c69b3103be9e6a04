-- The values of this crate may go to other threads and be shared by them: no part of them belongs to one thread.
use denote.Param.Send.{IsSend, IsSync, sendable}
use denote.Param.SendFields.{declared_send, declared_sync}
use Rattle.std.proofs.Crossing.{crosses}
use Rattle.label_set.proofs.SharingLemmas.{name_send, name_sync}
use Rattle.pattern_rule.proofs.RegexSharing.{regex_send, regex_sync}
use Rattle.pattern_rule.specs.contracts.pattern.Pattern as Pattern
use Rattle.pattern_rule.specs.contracts.pattern.Pattern.TheInside as Inside
use Rattle.pattern_rule.specs.contracts.template.Filling as Filling

pub filling_send : IsSend Filling.the_row
filling_send = search (name_send, name_sync, sendable, crosses) depth 60 fits 10000

pub filling_sync : IsSync Filling.the_row
filling_sync = search (name_send, name_sync, sendable, crosses) depth 60 fits 10000

inside_send : IsSend Inside.the_row
inside_send = declared_send Inside.the_type (name_send, (regex_send, (search sendable depth 20, (search sendable depth 20, tt))))

pub pattern_send : IsSend Pattern.the_row
pattern_send = search (inside_send, sendable) depth 10

inside_sync : IsSync Inside.the_row
inside_sync = declared_sync Inside.the_type (name_sync, (regex_sync, (search sendable depth 20, (search sendable depth 20, tt))))

pub pattern_sync : IsSync Pattern.the_row
pattern_sync = search (inside_sync, sendable) depth 10
