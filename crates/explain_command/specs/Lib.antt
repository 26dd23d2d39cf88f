pub mod Lines
pub mod Reasons
pub mod Explained
pub mod SoundTags
