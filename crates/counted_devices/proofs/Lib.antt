pub mod Chunks
pub mod Consuming
pub mod CutLemmas
pub mod CutOnce
pub mod Delivering
pub mod FaultKinds
pub mod Leaving
pub mod Zips
