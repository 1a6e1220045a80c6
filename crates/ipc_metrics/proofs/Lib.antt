mod RequestLemmas
mod ProcessLemmas
