-- What has been said with one line more, and what is wrong with a text
pub mod Saying
-- A register being filled, before a line and after it
pub mod AfterLine
-- A register filled, and the lines of its rows put down, line by line
pub mod ByLine
