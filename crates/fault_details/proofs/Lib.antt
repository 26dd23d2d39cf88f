mod Pieces
mod PlainBytes
mod Quoted
pub mod Scanning
pub mod Stops
mod Votes
