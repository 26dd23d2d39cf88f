pub mod Below
pub mod Equality
pub mod Lists
pub mod Options
pub mod Orderings
pub mod SameTags
