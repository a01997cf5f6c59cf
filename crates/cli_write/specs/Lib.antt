pub mod CheckedCopy
pub mod CopyCommand
pub mod PrivateTexts
pub mod Replacing
pub mod TextsBack
pub mod WriteCommand
