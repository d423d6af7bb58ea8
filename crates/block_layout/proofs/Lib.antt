pub mod Room
pub mod Ends
pub mod ChunkEnds
pub mod Runs
pub mod UsableBytes
pub mod BlockHeaders
mod Values
