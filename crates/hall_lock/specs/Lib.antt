pub mod Turns
pub use Rattle.hall_journal.specs.Halls
