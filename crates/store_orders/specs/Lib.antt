pub mod StoreOrders
pub mod Turns
pub mod TimedCalls
