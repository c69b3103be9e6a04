-- The values of this crate may go to other threads and be shared by them: no part of them belongs to one thread.
use denote.Param.Send.{IsSend, IsSync, sendable}
use Rattle.std.proofs.Crossing.{crosses}
use Rattle.life_roll.specs.contracts.moments.Interval as Interval
use Rattle.life_roll.specs.contracts.moments.Moment as Moment
use Rattle.life_roll.specs.contracts.moments.Planned as Planned
use Rattle.life_roll.specs.contracts.schedule.InFlight as InFlight
use Rattle.life_roll.specs.contracts.schedule.Schedule as Schedule

pub moment_send : IsSend Moment.the_row
moment_send = search (sendable, crosses) depth 60 fits 10000

pub moment_sync : IsSync Moment.the_row
moment_sync = search (sendable, crosses) depth 60 fits 10000

pub interval_send : IsSend Interval.the_row
interval_send = search (sendable, crosses) depth 60 fits 10000

pub interval_sync : IsSync Interval.the_row
interval_sync = search (sendable, crosses) depth 60 fits 10000

pub planned_send : IsSend Planned.the_row
planned_send = search (sendable, crosses) depth 60 fits 10000

pub planned_sync : IsSync Planned.the_row
planned_sync = search (sendable, crosses) depth 60 fits 10000

pub in_flight_send : IsSend InFlight.the_row
in_flight_send = search (moment_send, moment_sync, sendable, crosses) depth 60 fits 10000

pub in_flight_sync : IsSync InFlight.the_row
in_flight_sync = search (moment_send, moment_sync, sendable, crosses) depth 60 fits 10000

pub schedule_send : IsSend Schedule.the_row
schedule_send = search (interval_send, interval_sync, planned_send, planned_sync, in_flight_send, in_flight_sync, moment_send, moment_sync, sendable, crosses) depth 60 fits 10000

pub schedule_sync : IsSync Schedule.the_row
schedule_sync = search (interval_send, interval_sync, planned_send, planned_sync, in_flight_send, in_flight_sync, moment_send, moment_sync, sendable, crosses) depth 60 fits 10000
