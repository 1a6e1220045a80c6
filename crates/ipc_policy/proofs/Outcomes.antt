-- What sessions are answered, and how large that is.
pub mod Answering
pub mod Outboxes
pub mod AnswerSizes
pub mod MessageSizes
