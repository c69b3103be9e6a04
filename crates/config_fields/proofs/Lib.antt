pub mod FaultLemmas
pub mod CleanLemmas
