pub mod CheckedCopy
pub mod CommandAnswers
pub mod Gathering
pub mod TooLong
pub mod WrittenFiles
