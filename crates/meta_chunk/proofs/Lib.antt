pub mod Signature
pub mod OneBlock
pub mod LaidChunks
pub mod Joins
pub mod OneLaying
pub mod ChunkBytes
pub mod OneChunk
pub mod Begins
pub mod Chains
pub mod Shifts
pub mod Held
pub mod Placed
pub mod Totals
mod Values
pub mod PaddingLemmas
