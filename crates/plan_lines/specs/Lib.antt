-- Tests of bytes that come first
pub mod Leading
-- The number of a word among names
pub mod Names
-- The words behind a name, one after the other
pub mod Behind
