pub mod Going
pub mod Crossing
