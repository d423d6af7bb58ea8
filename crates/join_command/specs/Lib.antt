pub mod JoinCommand
pub mod JoiningEnds
pub mod CollectCommand
pub mod CollectingEnds
