pub mod Calling
pub mod EachCaller
pub mod Seating
pub mod Reasons
