pub mod Chains
pub mod Placing
