-- Calls that are parked, on queues and semaphores.
pub mod CallsListed
pub mod ParkedPlaces
pub mod ParkedSessions
pub mod ParkedSteps
pub mod Waits
pub mod WaitSteps
pub mod Earliest
pub mod TimedSteps
pub mod DueLists
pub mod DueSteps
pub mod Holders
