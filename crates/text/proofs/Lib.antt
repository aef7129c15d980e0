pub mod Decimals
pub mod Mapped
pub mod Placing
