pub mod Refusals
pub mod Relabelling
pub mod Effects
pub mod Built
