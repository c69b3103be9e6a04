-- The values of this crate may go to other threads and be shared by them: no part of them belongs to one thread.
use denote.Param.Send.{IsSend, IsSync, sendable}
use Rattle.std.proofs.Crossing.{crosses}
use Rattle.journal_text.specs.contracts.events.Event as Event
use Rattle.journal_text.specs.contracts.journal.Journal as Journal
use Rattle.label_set.proofs.SharingLemmas.{blob_send, blob_sync, name_send, name_sync}
use Rattle.outside.proofs.SharingLemmas.{reply_send, reply_sync}

pub event_send : IsSend Event.the_row
event_send = search (blob_send, blob_sync, name_send, name_sync, reply_send, reply_sync, sendable, crosses) depth 60 fits 10000

pub event_sync : IsSync Event.the_row
event_sync = search (blob_send, blob_sync, name_send, name_sync, reply_send, reply_sync, sendable, crosses) depth 60 fits 10000

pub journal_send : IsSend Journal.the_row
journal_send = search (event_send, event_sync, sendable, crosses) depth 60 fits 10000

pub journal_sync : IsSync Journal.the_row
journal_sync = search (event_send, event_sync, sendable, crosses) depth 60 fits 10000
