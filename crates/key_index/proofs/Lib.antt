pub mod Updated
pub mod Standing
pub mod Searching
pub mod Placements
pub mod Moving
