pub mod Walks
pub mod Events
pub mod Chains
pub mod Observing
pub mod Running
pub mod Quotas
