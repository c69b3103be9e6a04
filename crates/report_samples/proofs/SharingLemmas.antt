-- The values of this crate may go to other threads and be shared by them: no part of them belongs to one thread.
use denote.Param.Send.{IsSend, IsSync, sendable}
use Rattle.std.proofs.Crossing.{crosses}
use Rattle.label_set.proofs.SharingLemmas.{label_set_send, label_set_sync}
use Rattle.report_samples.specs.contracts.entries.Entry as Entry
use Rattle.report_samples.specs.contracts.entries.Kind as Kind
use Rattle.report_samples.specs.contracts.report_sets.ReportSets as ReportSets
use Rattle.value_text.proofs.SharingLemmas.{value_text_send, value_text_sync}

pub kind_send : IsSend Kind.the_row
kind_send = search (sendable, crosses) depth 60 fits 10000

pub kind_sync : IsSync Kind.the_row
kind_sync = search (sendable, crosses) depth 60 fits 10000

pub entry_send : IsSend Entry.the_row
entry_send = search (kind_send, kind_sync, label_set_send, label_set_sync, value_text_send, value_text_sync, sendable, crosses) depth 60 fits 10000

pub entry_sync : IsSync Entry.the_row
entry_sync = search (kind_send, kind_sync, label_set_send, label_set_sync, value_text_send, value_text_sync, sendable, crosses) depth 60 fits 10000

pub report_sets_send : IsSend ReportSets.the_row
report_sets_send = search (label_set_send, label_set_sync, sendable, crosses) depth 60 fits 10000

pub report_sets_sync : IsSync ReportSets.the_row
report_sets_sync = search (label_set_send, label_set_sync, sendable, crosses) depth 60 fits 10000
