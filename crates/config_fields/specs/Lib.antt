pub mod Places
pub mod Faults
pub mod Forms
pub mod Tables
pub mod Walks
