pub mod InitCommand
pub mod PutCommand
