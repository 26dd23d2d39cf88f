pub mod Pieces
pub mod Sentences
