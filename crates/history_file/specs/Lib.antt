pub mod KeyedOrders
pub mod Beginnings
pub mod BodyLaws
pub mod Openings
pub mod Making
pub mod NumberedRows
pub mod TakenRows
pub mod TakenLaws
