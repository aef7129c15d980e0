-- What stands past what was read
pub mod Places
