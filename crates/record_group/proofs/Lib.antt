pub mod OneChunk
pub mod Signed
pub mod OneBlock
pub mod Grouping
pub mod Paddings
pub mod Pushes
pub mod RecordFiles
mod Values
