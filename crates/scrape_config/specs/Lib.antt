pub mod Counts
pub mod Defaults
pub mod Lists
pub mod Values
pub mod Bounds
pub mod Reading
pub mod Settings
