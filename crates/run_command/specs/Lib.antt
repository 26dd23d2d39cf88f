pub mod Messages
pub mod RecordVerdicts
pub mod Records
pub mod Runs
pub mod Shown
