pub mod NumberLemmas
pub mod LineLemmas
pub mod FileLemmas
pub mod PlaceLemmas
