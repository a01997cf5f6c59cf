pub mod AskedSystems
pub mod ExportsTexts
pub mod FilesInTurn
pub mod FoundWords
