-- What holds of every history or every legal one, and what one event makes of each value.
pub mod Known
pub mod Moments
pub mod Growing
pub mod Grown
pub mod Refused
pub mod Unforbidden
pub mod Worked
pub mod PlainForms
