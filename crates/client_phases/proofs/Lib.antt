pub mod Again
pub mod Ends
