pub mod Known
pub mod Placed
