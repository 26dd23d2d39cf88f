pub mod Steps
pub mod LinesRead
pub mod Feeds
pub mod Ahead
pub mod Batches
