pub mod Settled
pub mod Survey
