mod Rows
mod Places
mod Filling
mod Taking
mod Counting
mod Ending
mod Loop
