pub mod Texts
pub mod Flows
pub mod Rooms
pub mod Summaries
pub mod Kept
