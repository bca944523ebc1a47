pub mod Places
pub mod Rising
pub mod Starting
pub mod Applying
pub mod Settling
pub mod Keeping
