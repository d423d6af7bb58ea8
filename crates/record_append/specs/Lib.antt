pub mod Devices
pub mod Grown
pub mod Ends
pub mod Appends
pub mod AppendAnswers
