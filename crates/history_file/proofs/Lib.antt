pub mod Bodies
pub mod NumberedLines
pub mod TakenLines
