pub mod ByteOrder
pub mod FoundInFiles
pub mod KeyExists
pub mod OneSought
pub mod SeekSteps
pub mod SeekRuns
mod SeekValues
