pub mod Callers
pub mod LoadErrors
pub mod LoadStores
pub mod Loads
pub mod Passes
