pub mod LoadLemmas
pub mod EndLemmas
