pub mod Prepared
pub mod Outcomes
pub mod Listed
pub mod Requests
pub mod Values
pub mod Walk
