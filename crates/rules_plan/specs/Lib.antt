-- Lines and words
pub mod Words
-- What a line says
pub mod Lines
-- What is wrong with a text, and where
pub mod Faults
-- What is recorded of a text
pub mod Recording
-- The numbers and values of what the code has as enums
pub mod Answered
-- What tries it
pub mod rows
