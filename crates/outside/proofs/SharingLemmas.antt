-- The values of this crate may go to other threads and be shared by them: no part of them belongs to one thread.
use denote.Param.Send.{IsSend, IsSync, sendable}
use Rattle.std.proofs.Crossing.{crosses}
use Rattle.label_set.proofs.SharingLemmas.{blob_send, blob_sync}
use Rattle.outside.specs.contracts.replies.Reply as Reply
use Rattle.outside.specs.contracts.requests.Scheme as Scheme

pub reply_send : IsSend Reply.the_row
reply_send = search (blob_send, blob_sync, sendable, crosses) depth 60 fits 10000

pub reply_sync : IsSync Reply.the_row
reply_sync = search (blob_send, blob_sync, sendable, crosses) depth 60 fits 10000

pub scheme_send : IsSend Scheme.the_row
scheme_send = search (sendable, crosses) depth 60 fits 10000

pub scheme_sync : IsSync Scheme.the_row
scheme_sync = search (sendable, crosses) depth 60 fits 10000
