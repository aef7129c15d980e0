pub mod Below
pub mod Islands
pub mod UpperLimits
pub mod Listed
pub mod SeenIslands
