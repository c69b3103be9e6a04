pub mod ServeLemmas
pub mod EndLemmas
