pub mod TakenLines
pub mod FeedSteps
pub mod Origins
pub mod TakenRecords
mod Values
pub mod WriteEnds
pub mod WrittenLines
mod KnownEnds
mod MarkBits
mod HeldRanges
