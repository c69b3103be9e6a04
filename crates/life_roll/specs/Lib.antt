pub mod Schedules
pub mod Seats
pub mod Names
pub mod Wants
pub mod Rolls
pub mod Flights
pub mod Counts
