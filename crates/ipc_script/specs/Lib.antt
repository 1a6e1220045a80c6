pub mod Faults
pub mod Labels
pub mod LabelMaps
pub mod Steps
pub mod Printing
pub mod Running
pub mod Told
