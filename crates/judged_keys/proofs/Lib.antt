pub mod Ending
pub mod Selecting
pub mod Judgements
mod TagOrders
mod FoundOrders
mod Saying
