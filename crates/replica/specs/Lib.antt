pub mod Pairs
pub mod Replicas
