mod DeviceFailures
pub mod EachKey
pub mod Entries
mod FailureSpelling
pub mod HallParts
pub mod Endings
pub mod CheckedKeys
mod LineSpelling
mod Tagging
pub mod Told
mod Justified
mod AnyNote
mod Hinting
pub mod Reported
pub mod Noted
pub mod Prefixes
pub mod Reading
mod Sayings
