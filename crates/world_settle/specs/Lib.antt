pub mod Agreeing
pub mod Settling
pub mod Refusing
pub mod StepsLeft
pub mod SettleAnswers
pub mod Numbers
