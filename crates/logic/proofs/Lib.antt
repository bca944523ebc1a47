pub mod Ranges
pub mod Marks
pub mod Weights
pub mod Closures
pub mod Saying
pub mod Standing
