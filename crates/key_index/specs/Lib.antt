pub mod Marks
pub mod Numbers
pub mod Slots
pub mod Placed
pub mod Kept
