pub mod Escaping
pub mod Harmless
pub mod Rendered
mod Shown
mod NamesAreWords
mod ReadTags
mod Nesting
