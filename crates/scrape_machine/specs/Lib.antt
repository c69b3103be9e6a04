pub mod Lives
pub mod Machine
pub mod Runs
