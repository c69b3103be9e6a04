pub mod SeatLemmas
pub mod NameLemmas
pub mod WantLemmas
pub mod RollLemmas
pub mod FlightLemmas
pub mod CountLemmas
pub mod SharingLemmas
