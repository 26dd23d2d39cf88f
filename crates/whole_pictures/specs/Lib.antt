pub mod Together
pub mod WholeScenes
pub mod WholePages
