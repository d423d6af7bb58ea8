pub mod CostLemmas
pub mod Parts
pub mod RecordLists
mod GroupLists
mod Sizes
pub mod SizeLemmas
mod Checking
mod Faults
mod PartLemmas
mod ReadEnds
pub mod SimpleChunks
mod Values
