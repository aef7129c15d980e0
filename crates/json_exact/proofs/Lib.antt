-- The reader takes exactly the texts of the rules: `sound`, `complete` and `one_tree` of Text, and what they rest on.
pub mod Splits
pub mod Leading
pub mod Sizes
pub mod Classes
pub mod Numbers
pub mod Octets
pub mod Utf8
pub mod Characters
pub mod Steps
pub mod Strings
pub mod Scalars
pub mod Blanks
pub mod Bracketed
pub mod Members
pub mod Rules
pub mod Values
pub mod Text
