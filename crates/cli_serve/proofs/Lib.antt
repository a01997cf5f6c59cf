pub mod Runs
pub mod ServeAnswers
