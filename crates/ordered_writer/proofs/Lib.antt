pub mod Between
pub mod Runs
pub mod RunCalls
pub mod Both
pub mod Chunks
pub mod Paddings
pub mod RightChunks
pub mod Ring
pub mod Reorderings
pub mod ByNumber
pub mod Moves
pub mod JoinedFiles
mod Values
