pub mod Serves
pub mod Ends
