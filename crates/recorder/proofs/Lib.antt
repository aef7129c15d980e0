pub mod LineByLine
pub mod LineFaults
pub mod CheckedOn
pub mod FilledOn
pub mod InPlain
pub mod Recordings
