pub mod Generator
pub mod SampleCommand
pub mod SampleEnds
