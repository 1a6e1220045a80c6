pub mod LastReceipts
pub mod Listing
pub mod Counts
pub mod Collected
pub mod Starting
pub mod Places
pub mod TreeCrossing
pub mod Crossing
