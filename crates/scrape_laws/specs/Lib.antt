pub mod Scrapes
pub mod Markers
pub mod Runs
pub mod Late
pub mod Flights
pub mod Undisturbed
pub mod Apart
pub mod Past
