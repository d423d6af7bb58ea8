pub mod Ranges
pub mod Stretches
pub mod Reads
pub mod RangesCommand
pub mod RangesEnds
