-- What queues hold, their attributes, what they take of their creators, and their registrations.
pub mod ActsOf
pub mod Queueing
pub mod QueueAttributes
pub mod QueueBounds
pub mod InsidePlaces
pub mod Keeping
pub mod Charging
pub mod Limiting
pub mod Registering
pub mod RegisteredSteps
