-- The paper, in its own order, which is the order to read it in. Words from further on: Station, Siting and Register
-- give numbers of Numbers, Reports asks the condition of Aspect, and Register the answers of Answers.
pub mod Words
pub mod Station
pub mod Kinds
pub mod OfEachKind
pub mod Reports
pub mod Aspect
pub mod Outputs
pub mod Heads
pub mod Siting
pub mod Layout
pub mod Register
pub mod Browser
pub mod Numbers
pub mod Answers
pub mod Printer
-- Document 02, request 1
pub mod Screen
-- The answers as enums: what they are to the paper.
pub mod Answered
-- What tries it.
pub mod rows
