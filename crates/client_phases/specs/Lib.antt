pub mod Asking
pub mod Calls
pub mod Clients
pub mod States
