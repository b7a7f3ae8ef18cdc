pub mod Written
pub mod Pieces
pub mod Numbers
