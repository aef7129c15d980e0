pub mod Answered
pub mod Computed
pub mod WordRows
pub mod LineRows
pub mod FaultRows
pub mod RecordingRows
