pub mod Beginning
pub mod FrontLemmas
pub mod FieldLemmas
pub mod FramingLemmas
pub mod FormatLemmas
pub mod Joins
pub mod Many
pub mod TermLemmas
