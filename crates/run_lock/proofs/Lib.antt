pub mod CallerLemmas
pub mod EntryLemmas
pub mod HeldLemmas
mod ListedLemmas
pub mod RunLemmas
pub mod SeatLemmas
pub mod SharingLemmas
pub mod SlotLemmas
