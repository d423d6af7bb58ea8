pub mod AcceptedLimits
pub mod AnswerStreams
pub mod AppendAnswers
pub mod AppendRuns
pub mod AppendSteps
mod AppendValues
mod AnswerValues
pub mod CommandLaws
pub mod CommandWords
pub mod DigitsBack
pub mod FileAnswersExist
pub mod GrownBack
mod NameValues
pub mod RunsWith
pub mod PastDamage
pub mod ReadBack
mod ReadWordValues
mod ShowWordValues
mod WriteWordValues
mod SampleWordValues
mod SeekWordValues
mod RangesWordValues
mod RecoverValues
pub mod RepairSteps
pub mod RepairEnds
mod RepairValues
pub mod UsageRuns
pub mod WrittenSizes
mod DamageValues
