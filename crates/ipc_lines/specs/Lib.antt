pub mod Lines
pub mod Reading
pub mod Faults
pub mod Words
