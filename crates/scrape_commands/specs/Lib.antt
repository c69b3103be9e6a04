pub mod Checks
pub mod Scripts
pub mod Synths
pub mod Instants
pub mod Ends
pub mod Laws
pub mod Cuts
