pub mod Writers
pub mod Padding
pub mod Layings
pub mod Reorders
