pub mod Field
pub mod Format
pub mod Frame
pub mod Given
pub mod Terms
