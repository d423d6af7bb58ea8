pub mod Joined
pub mod Joins
