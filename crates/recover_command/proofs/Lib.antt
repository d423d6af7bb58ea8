pub mod FaultlessRecovered
pub mod OneRecovery
pub mod RecoverLoop
pub mod RecoverRuns
pub mod RecoverSteps
pub mod RecoverStreams
pub mod RegionTexts
pub mod WalkRuns
pub mod WalkStatuses
mod WalkValues
