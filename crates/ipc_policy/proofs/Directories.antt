-- Names, objects, and their owners, groups and modes.
pub mod Facts
pub mod Creating
pub mod OpenAccepted
pub mod Bindings
pub mod Listing
pub mod Living
pub mod NameLengths
pub mod NamesBound
