mod Results
pub mod Rows
mod Moves
mod OneTurn
mod Joining
mod Running
mod ClientTurns
mod FreeTurns
mod Stopping
