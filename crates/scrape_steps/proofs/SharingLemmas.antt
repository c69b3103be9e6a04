-- The endings that wait may go to other threads and be shared by them: no part of them belongs to one thread.
use denote.Param.Send.{IsSend, IsSync, sendable}
use Rattle.std.proofs.Crossing.{crosses}
use Rattle.scrape_steps.specs.contracts.endings.Endings as Endings

pub endings_send : IsSend Endings.the_row
endings_send = search (sendable, crosses) depth 60 fits 10000

pub endings_sync : IsSync Endings.the_row
endings_sync = search (sendable, crosses) depth 60 fits 10000
