pub mod Calls
pub mod Questions
pub mod Trace
pub mod Faithful
pub mod Turns
pub mod Served
