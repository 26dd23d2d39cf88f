pub mod Words
pub mod StepLines
pub mod Traces
pub mod Running
pub mod Sentences
