pub mod Between
pub mod Runs
pub mod Wholes
pub mod Threads
pub mod Fronts
pub mod AllParts
pub mod EvenCuts
pub mod Answering
mod Values
pub mod RangesAnswers
pub mod RangesLines
pub mod RangesRuns
pub mod RangesSizes
pub mod RangesSteps
pub mod RangesStores
pub mod RangesStreams
mod RangesValues
