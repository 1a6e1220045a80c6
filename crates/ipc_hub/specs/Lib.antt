pub mod Marking
pub mod Hub
pub mod MarkedCore
pub mod Connections
pub mod Sessions
pub mod Stepping
pub mod Laws
pub mod Gone
