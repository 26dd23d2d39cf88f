pub mod CommandWords
pub mod Forms
pub mod Reading
pub mod RunWords
pub mod Words
