pub mod Keys
pub mod Notes
pub mod Numbers
pub mod RecordOrders
