pub mod PieceTexts
pub mod Files
pub mod Rows
pub mod Written
pub mod Endings
