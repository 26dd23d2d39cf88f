mod Refusals
mod Reports
mod Sent
mod Marking
mod Judging
mod Loop
