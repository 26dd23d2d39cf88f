pub mod PartsWithout
pub mod Nothing
pub mod NextRows
