mod Zips
mod Judging
mod Showing
mod Halls
mod Paging
