pub mod Lists
pub mod Changing
pub mod Removing
