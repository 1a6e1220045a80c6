pub mod ListenerLemmas
