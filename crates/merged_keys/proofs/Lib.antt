mod Numbers
mod SameRows
mod Following
