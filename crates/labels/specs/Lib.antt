pub mod Texts
pub mod Cuts
pub mod Labels
pub mod Places
pub mod Images
pub mod Samples
pub mod Each
pub mod Strips
