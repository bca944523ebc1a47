pub mod Routes
pub mod Names
pub mod Lines
