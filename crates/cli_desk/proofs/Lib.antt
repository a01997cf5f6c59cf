pub mod EditAnswers
pub mod NoDesk
