pub mod Gone
pub mod Log
pub mod Receipts
pub mod Sizes
