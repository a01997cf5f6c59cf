pub mod CopiedFile
pub mod Copy
pub mod Copying
pub mod DatabaseFile
pub mod Kept
pub mod LogFile
pub mod OneFile
