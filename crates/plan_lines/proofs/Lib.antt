pub mod Pieces
pub mod Worded
pub mod Counted
pub mod Naming
pub mod Numbered
pub mod WordFaults
