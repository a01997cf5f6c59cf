pub mod AtFour
pub mod ClapAnswers
pub mod ProgramWords
