pub mod KeptFiles
pub mod PutRecords
pub mod Grows
pub mod GrownFiles
mod Values
