pub mod InitAnswers
pub mod PutAnswers
pub mod Writing
