pub mod Class
pub mod Users
pub mod UserLine
pub mod UserFile
pub mod Sticky
pub mod Ownership
pub mod Places
