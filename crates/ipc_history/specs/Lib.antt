pub mod Faults
pub mod Incoming
pub mod Files
pub mod Counts
pub mod Users
pub mod Pasts
pub mod Replays
pub mod Shown
