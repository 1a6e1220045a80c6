pub mod RequestLemmas
pub mod AnswerLemmas
pub mod SpellingLemmas
pub mod CutLemmas
pub mod OrderLemmas
pub mod SmallAnswers
