pub mod Bits
pub mod Padding
pub mod Quorums
pub mod Sets
