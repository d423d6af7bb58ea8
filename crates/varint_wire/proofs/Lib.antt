pub mod Spellings
pub mod Faults
pub mod InARow
mod Feeding
mod Bits
mod Writing
mod Steps
pub mod Values
