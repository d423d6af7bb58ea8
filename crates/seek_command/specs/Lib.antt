pub mod Searches
pub mod SeekCommand
pub mod SingleAnswers
pub mod SeekEnds
