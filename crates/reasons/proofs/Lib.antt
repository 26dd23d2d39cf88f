pub mod Positions
pub mod NotePlaces
pub mod ListedCalls
pub mod Faults
pub mod Rules
pub mod UnnotedWrites
