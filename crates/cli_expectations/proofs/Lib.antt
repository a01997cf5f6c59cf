pub mod Gathered
pub mod LineEnds
pub mod ListedOnce
pub mod LogFloats
pub mod Status
