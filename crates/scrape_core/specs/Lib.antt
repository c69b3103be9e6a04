pub mod Kept
pub mod Laws
pub mod OpenLives
pub mod ReadEvents
pub mod Readers
pub mod Records
pub mod Wakes
