pub mod Digits
pub mod LinePuts
pub mod OneReading
mod ReadTextValues
pub mod ReadingsExist
pub mod ReadingRuns
pub mod ShowSteps
pub mod VerifyEnds
