pub mod Escapes
pub mod Names
pub mod Markup
pub mod PageTags
pub mod Texts
