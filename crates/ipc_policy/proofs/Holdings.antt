-- Descriptions and what they give.
pub mod Holding
pub mod Granting
pub mod HeldRights
pub mod Leading
