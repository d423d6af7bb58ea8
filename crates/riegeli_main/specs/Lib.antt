pub mod FileRuns
pub mod Paths
