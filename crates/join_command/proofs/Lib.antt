pub mod JoinAnswers
pub mod JoinRuns
pub mod JoinSteps
pub mod AllWeaves
pub mod CollectAnswers
pub mod CollectedFiles
pub mod CollectRuns
pub mod CollectSteps
mod CollectValues
pub mod FileLines
pub mod InTurnWeaves
pub mod OneCollected
