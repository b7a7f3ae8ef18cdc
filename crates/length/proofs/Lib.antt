pub mod Walks
pub mod Members
pub mod Least
pub mod Rounds
pub mod Tries
