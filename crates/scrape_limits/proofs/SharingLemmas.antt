-- The values of this crate may go to other threads and be shared by them: no part of them belongs to one thread.
use denote.Param.Send.{IsSend, IsSync, sendable}
use Rattle.std.proofs.Crossing.{crosses}
use Rattle.scrape_limits.specs.contracts.limits.Limits as Limits

pub limits_send : IsSend Limits.the_row
limits_send = search (sendable, crosses) depth 60 fits 10000

pub limits_sync : IsSync Limits.the_row
limits_sync = search (sendable, crosses) depth 60 fits 10000
