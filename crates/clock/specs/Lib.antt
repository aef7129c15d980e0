pub mod Ages
pub mod Turns
pub mod Timetable
pub mod Hold
