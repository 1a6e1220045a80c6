pub mod Objects
pub mod TablesView
pub mod Charging
pub mod Lending
pub mod Steps
pub mod Standing
pub mod Sessions
