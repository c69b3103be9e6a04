pub mod Concerned
pub mod Endings
pub mod Plans
pub mod Reloads
pub mod Scans
