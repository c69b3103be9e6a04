pub mod Kinds
pub mod Markers
pub mod Reports
