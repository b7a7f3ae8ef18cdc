pub mod Members
pub mod Holding
pub mod Afterwards
