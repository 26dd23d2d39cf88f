pub mod ValueReasons
pub mod ValueSentences
pub mod Pieces
