pub mod Finished
pub mod Laid
pub mod PassLemmas
pub mod PlacedNumbers
pub mod PlacedPasses
pub mod Woven
pub mod PlaceSteps
pub mod TakenRecords
pub mod FedFiles
pub mod WovenCosts
pub mod FedThreads
pub mod AllRead
pub mod WholeGatherings
mod Values
pub mod Weaves
pub mod InTurn
