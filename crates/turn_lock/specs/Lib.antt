pub mod Turns
pub mod Passes
pub mod Logs
