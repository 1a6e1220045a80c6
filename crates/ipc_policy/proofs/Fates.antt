-- What became of each message.
pub mod Sent
pub mod Tracing
pub mod Delivering
pub mod Bringing
pub mod OneFate
