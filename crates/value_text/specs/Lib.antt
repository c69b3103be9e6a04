pub mod Durations
pub mod Grammar
pub mod Numbers
pub mod Values
