pub mod Counts
pub mod Cutting
pub mod Rendering
mod Fitting
pub mod ShownWords
pub mod Standing
mod Widths
