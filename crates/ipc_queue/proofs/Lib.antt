pub mod Greatest
pub mod Leaving
pub mod Standing
