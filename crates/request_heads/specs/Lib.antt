pub mod Requests
pub mod Fronts
pub mod Queries
