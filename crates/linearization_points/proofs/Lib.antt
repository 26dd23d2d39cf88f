pub mod RunningPoints
