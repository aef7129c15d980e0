pub mod Lengths
pub mod Spelling
pub mod Sheets
pub mod Counted
pub mod Counts
