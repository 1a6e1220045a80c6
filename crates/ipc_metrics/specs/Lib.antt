pub mod Families
pub mod Pages
pub mod Requests
pub mod Responses
pub mod Processes
