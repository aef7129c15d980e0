pub mod ByNumber
pub mod InPlace
pub mod Taking
pub mod Accepted
pub mod Asked
pub mod FiveIslands
pub mod Shape
pub mod Occupying
