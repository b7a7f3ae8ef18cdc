pub mod Tally
pub mod Told
pub mod Rows
pub mod Ledgers
pub mod Slips
pub mod Routes
pub mod Shown
