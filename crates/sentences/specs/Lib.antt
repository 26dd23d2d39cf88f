pub mod Hidden
pub mod Words
