pub mod Apart
pub mod EachZone
pub mod ShownLaws
pub mod Surveys
