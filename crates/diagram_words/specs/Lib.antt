pub mod Words
pub mod Readable
