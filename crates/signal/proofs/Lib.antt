pub mod Digits
pub mod Every
pub mod Paper
pub mod Shown
