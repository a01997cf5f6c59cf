pub mod QuestionAnswers
pub mod SecondReading
