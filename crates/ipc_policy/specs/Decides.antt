-- The policy: what decides whether a call is granted, and what is answered.
pub mod History
pub mod Sessions
pub mod Names
pub mod Objects
pub mod Descriptions
pub mod Life
pub mod Timed
pub mod Queues
pub mod Registrations
pub mod Semaphores
pub mod Bodies
pub mod Parking
pub mod Charges
pub mod Rules
pub mod Verdict
