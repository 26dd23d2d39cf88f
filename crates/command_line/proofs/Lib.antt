mod CommandNames
mod Digits
mod Numbers
pub mod Unmade
