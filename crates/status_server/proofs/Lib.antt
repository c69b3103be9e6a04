pub mod TargetLemmas
pub mod ConnectionLemmas
pub mod FlowLemmas
pub mod StepLemmas
pub mod ServeLemmas
pub mod ServerLemmas
pub mod FederateLemmas
pub mod WholeLemmas
