pub mod Distinct
pub mod Ending
pub mod Saying
pub mod Spelling
pub mod Verdicts
