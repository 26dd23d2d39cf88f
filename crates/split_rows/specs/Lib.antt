pub mod Pieces
pub mod MovedParts
pub mod Taken
pub mod Splits
