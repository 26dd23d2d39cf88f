pub mod Maps
pub mod Insertions
mod Adopting
pub mod Rising
