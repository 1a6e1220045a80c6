pub mod Greeting
pub mod StreamLemmas
pub mod TalkLemmas
pub mod CommandLemmas
pub mod ListLemmas
pub mod EndLemmas
