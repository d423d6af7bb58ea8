pub mod Drawings
pub mod Jumps
pub mod SampleCounts
pub mod SampleRuns
mod Values
