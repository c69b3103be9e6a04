pub mod Control
pub mod Crews
pub mod Ends
pub mod InputLines
pub mod Lines
