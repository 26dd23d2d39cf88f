pub mod ZonesOf
pub mod Judged
pub mod Answers
pub mod Shown
pub mod Forgetting
pub mod KeptWrites
pub mod Pending
pub mod Follows
