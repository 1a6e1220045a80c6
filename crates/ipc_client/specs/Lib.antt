pub mod Faults
pub mod Frames
pub mod Connections
pub mod Dialogues
pub mod Acts
pub mod Lists
pub mod Sessions
