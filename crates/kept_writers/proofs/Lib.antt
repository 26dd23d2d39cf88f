pub mod Overwriters
pub mod Greatest
pub mod Choosing
pub mod Standing
mod Emptiness
