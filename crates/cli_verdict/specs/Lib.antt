pub mod Asking
pub mod Changes
pub mod ObjectLine
pub mod Ranges
pub mod TryText
