pub mod Equality
pub mod Flights
pub mod Numbers
pub mod Refusals
pub mod Pools
pub mod PoolLaws
