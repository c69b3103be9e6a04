pub mod Sets
pub mod Remembered
pub mod Caches
pub mod Kept
pub mod Places
pub mod Vanished
pub mod Added
pub mod Hashes
