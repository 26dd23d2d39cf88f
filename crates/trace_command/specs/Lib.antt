pub mod TracePages
pub mod Endings
