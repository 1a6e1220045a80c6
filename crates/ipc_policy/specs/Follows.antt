-- What follows from the policy, and decides nothing.
pub mod Readings
pub mod Laws
pub mod Ticks
pub mod CallLists
pub mod Grow
pub mod Rights
pub mod Sizes
pub mod Answered
pub mod Deliveries
pub mod Confined
pub mod Fates
