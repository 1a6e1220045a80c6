pub mod SpokenLemmas
