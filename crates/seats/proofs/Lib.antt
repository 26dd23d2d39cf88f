mod Logs
mod Matching
mod Keeping
mod Stalling
mod Reasons
mod Stale
mod Answering
pub mod SeatChanges
mod SeatReasons
mod CallLeaving
