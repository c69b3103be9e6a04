-- The values of this crate may go to other threads and be shared by them: no part of them belongs to one thread.
use denote.Param.Send.{IsSend, IsSync, sendable}
use Rattle.std.proofs.Crossing.{crosses}
use Rattle.value_text.specs.contracts.texts.ValueText as ValueText

pub value_text_send : IsSend ValueText.the_row
value_text_send = search (sendable, crosses) depth 60 fits 10000

pub value_text_sync : IsSync ValueText.the_row
value_text_sync = search (sendable, crosses) depth 60 fits 10000
