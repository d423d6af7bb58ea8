pub mod Copied
pub mod EventChunks
pub mod RelaidFiles
pub mod RecordFiles
pub mod LeftChunks
pub mod RelaidBytes
pub mod Growth
mod Values
pub mod RepairPuts
pub mod WholeLines
mod HeldPuts
mod CopySteps
mod WalkedFiles
pub mod WalkEnds
mod SkippedRegions
pub mod OneWalk
pub mod DamagedRepairs
pub mod FrontRepairs
mod DamageValues
