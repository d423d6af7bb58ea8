pub mod Chunks
pub mod Kinds
pub mod SimpleChunks
pub mod Views
