pub mod Folders
pub mod Greetings
pub mod Hellos
pub mod Owners
