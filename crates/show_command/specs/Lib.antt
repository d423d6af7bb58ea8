pub mod Readings
pub mod RecordForms
pub mod ReadingEnds
pub mod ShowCommand
pub mod ShowProgress
pub mod VerifyCommand
