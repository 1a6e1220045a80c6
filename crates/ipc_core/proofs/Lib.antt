pub mod Answering
pub mod BoxSteps
pub mod BoxSlots
pub mod BoxTables
pub mod Noticing
pub mod LawLemmas
pub mod PostedLemmas
pub mod ByDescription
