pub mod Decides
pub mod Follows
