pub mod Open
pub mod Forgotten
pub mod SoundTables
pub mod Oppositions
pub mod Cuts
pub mod UnderWay
pub mod Continued
