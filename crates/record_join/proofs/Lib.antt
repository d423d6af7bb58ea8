mod Values
pub mod JoinedFiles
pub mod FirstFaults
pub mod HandedOut
pub mod CopiedPieces
pub mod Behind
pub mod Steps
