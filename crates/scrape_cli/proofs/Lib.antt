mod DueLemmas
mod LiveLemmas
