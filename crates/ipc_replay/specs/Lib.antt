pub mod HangingUp
pub mod Replaying
