mod LineLemmas
mod OutputLemmas
pub mod WordLemmas
