pub mod Counts
mod Readable
mod Hiding
