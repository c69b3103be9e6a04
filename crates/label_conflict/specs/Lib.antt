pub mod Orders
pub mod Merging
pub mod Laws
pub mod Names
