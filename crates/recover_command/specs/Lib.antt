pub mod RecoverCommand
pub mod RecoverProgress
pub mod WalkAnswers
pub mod WalkingEnds
