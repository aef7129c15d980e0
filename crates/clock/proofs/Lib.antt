pub mod Ages
pub mod FreeTracks
pub mod Turned
pub mod Timetables
pub mod ByTimetable
pub mod Settled
pub mod Settling
