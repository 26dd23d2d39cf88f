mod Dividing
mod Spanning
mod Telling
