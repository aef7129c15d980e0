pub mod Lines
-- The crate's lemmas.
pub mod Places
