mod Joining
mod Failing
mod Showing
mod Leaving
mod OwnSeats
