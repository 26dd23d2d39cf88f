pub mod Ends
pub mod Fresh
pub mod Candidates
pub mod Written
