pub mod Pieces
pub mod ToldCalls
pub mod Findings
pub mod Objects
pub mod Counts
