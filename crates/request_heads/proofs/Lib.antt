pub mod FrontLemmas
pub mod QueryLemmas
