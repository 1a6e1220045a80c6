-- Values of semaphores.
pub mod SemaphoreBounds
pub mod ValueCounts
