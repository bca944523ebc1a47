pub mod Decimals
pub mod Printing
pub mod Minima
pub mod Orders
