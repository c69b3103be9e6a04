pub mod Bodies
pub mod Forms
pub mod Grammar
pub mod Laws
pub mod Reads
pub mod Timestamps
