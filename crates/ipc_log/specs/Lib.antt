pub mod Checksum
pub mod Summed
pub mod Fields
pub mod Trail
pub mod Given
pub mod Writing
