pub mod Books
pub mod Verdicts
pub mod Series
pub mod Index
pub mod Laws
