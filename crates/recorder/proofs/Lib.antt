mod Lists
mod Pairs
mod Tables
mod RowCounts
mod PartLemmas
mod Numbers
mod OneMore
mod States
mod Busy
mod Answering
mod KeptCalls
mod Keeps
mod Recorded
mod Counts
mod GroupLemmas
mod FirstSeen
mod Sorted
mod OneList
pub mod Callers
pub mod Sequences
