pub mod Model
pub mod Standard
pub mod Walks
pub mod Least
pub mod Rounds
pub mod Lawful
