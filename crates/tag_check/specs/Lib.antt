pub mod Least
pub mod Rules
pub mod Verdicts
pub mod Numbers
pub mod Texts
pub mod Greatest
pub mod Writes
pub mod Answers
