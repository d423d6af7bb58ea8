pub mod Lengths
pub mod ChunkBytes
pub mod Fields
pub mod Headers
pub mod HeaderValues
pub mod RightHeaders
pub mod OneList
pub mod FewRecords
pub mod SimpleChunks
pub mod Decided
pub mod DecidedRecords
mod Values
