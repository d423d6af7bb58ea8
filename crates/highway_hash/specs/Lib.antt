pub mod Hashers
pub mod HighwayHash
pub mod Riegeli
pub mod WholeLanes
