pub mod Calls
pub mod TagOrder
pub mod ByTag
pub mod Answered
pub mod Values
pub mod Soundness
pub mod Refutations
pub mod OneVerdict
