pub mod Adding
pub mod Framing
mod Apart
mod SceneOrder
mod FoundOrders
mod Fitting
mod Looking
mod RangeSteps
mod Searched
mod Explained
