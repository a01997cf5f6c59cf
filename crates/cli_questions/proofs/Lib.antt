pub mod DeskAnswers
pub mod Writing
pub mod HeadsOnce
pub mod OnCopy
