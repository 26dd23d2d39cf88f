pub mod JsonLines
pub mod Decided
pub mod Findings
