pub mod Switches
pub mod Spelled
