pub mod Additions
pub mod FirstBad
pub mod FoundNames
pub mod FoundRows
pub mod LineTexts
pub mod MountWords
