pub mod Counting
pub mod Directory
