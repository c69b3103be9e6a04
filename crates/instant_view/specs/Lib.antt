pub mod Grammar
pub mod Forms
pub mod Faults
pub mod Selectors
pub mod Tests
pub mod Views
pub mod Threads
