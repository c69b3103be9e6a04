pub mod PatternLemmas
pub mod DefaultLemmas
pub mod WordLemmas
pub mod TestLemmas
pub mod RegexSharing
pub mod SharingLemmas
