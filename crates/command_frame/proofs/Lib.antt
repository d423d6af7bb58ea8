pub mod Decimals
mod NumberValues
mod OptionValues
pub mod OptionWords
pub mod WithinBounds
pub mod FilesLimits
mod FilesWordValues
mod Values
pub mod Causes
pub mod RunEnds
pub mod FileRuns
pub mod FileEnds
pub mod GrownRuns
pub mod Lines
pub mod NoteLines
pub mod OneAnswer
pub mod PutSoFar
pub mod TwoStreams
pub mod AskedSizes
pub mod ManyFiles
pub mod ManyFilesEnds
pub mod AskedFiles
