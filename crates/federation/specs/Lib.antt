pub mod Federations
pub mod Merges
pub mod Texts
pub mod Readings
