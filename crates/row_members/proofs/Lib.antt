mod Digits
pub mod PlainTexts
pub mod Pieces
mod MemberKeys
mod MemberValues
mod Entries
mod Objects
mod Reading
