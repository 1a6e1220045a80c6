pub mod Tickets
pub mod Contents
