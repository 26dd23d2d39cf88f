mod Lists
mod Zips
mod Tags
pub mod Unnoted
mod CallKeys
mod KeyOrder
mod ByKeys
mod SortedLists
mod Insertion
mod OneList
pub mod SoundOrder
