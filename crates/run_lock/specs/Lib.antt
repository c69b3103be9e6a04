pub mod Callers
pub mod Entries
pub mod Held
pub mod Listed
pub mod Running
pub mod Seats
pub mod Tasks
