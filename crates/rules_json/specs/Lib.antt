-- How rules are put together
pub mod Abnf
-- RFC 3629 and RFC 2781: the octets and the code units of a character
pub mod Utf8
-- What a text says
pub mod Tree
-- RFC 8259, rule by rule
pub mod Grammar
-- A reader on lists
pub mod Reader
