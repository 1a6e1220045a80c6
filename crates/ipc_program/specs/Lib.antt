pub mod Addresses
pub mod Options
pub mod Trails
pub mod Servers
pub mod Tasks
pub mod Faults
pub mod Statuses
