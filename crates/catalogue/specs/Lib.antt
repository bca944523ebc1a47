pub mod Cells
pub mod Climbing
pub mod Refusals
pub mod Rules
pub mod Calls
