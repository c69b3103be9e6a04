pub mod Instants
pub mod Arguments
pub mod Askings
pub mod Words
